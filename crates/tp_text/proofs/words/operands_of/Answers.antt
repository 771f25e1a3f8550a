use Rattle.tp_text.proofs.Readings.{none_at_all, none_next, none_behind}
use Rattle.tp_text.proofs.words.operands_of.Goals as goal

pub returns-in_err-second : goal.returns-in_err-second
returns-in_err-second c =
    let second = none_next 3 c.in_ok-first.text.now c.in_default-behind_line.ensures c.in_err-second.ensures in
    rw c.from_residual-in_err-second.ensures
    (none_behind 3 c.in_ok-first.first c.args.text.now c.in_ok-first.text.now c.in_ok-first.ensures second)

pub returns-in_err-third : goal.returns-in_err-third
returns-in_err-third c =
    let third = none_next 2 c.in_ok-second.text.now c.in_default-behind_line-2.ensures c.in_err-third.ensures in
    let second = none_behind 2 c.in_ok-second.second c.in_ok-first.text.now c.in_ok-second.text.now c.in_ok-second.ensures third in
    rw c.from_residual-in_err-third.ensures
    (none_behind 3 c.in_ok-first.first c.args.text.now c.in_ok-first.text.now c.in_ok-first.ensures second)

pub returns-in_err-fourth : goal.returns-in_err-fourth
returns-in_err-fourth c =
    let fourth = none_next 1 c.in_ok-third.text.now c.in_default-behind_line-3.ensures c.in_err-fourth.ensures in
    let third = none_behind 1 c.in_ok-third.third c.in_ok-second.text.now c.in_ok-third.text.now c.in_ok-third.ensures fourth in
    let second = none_behind 2 c.in_ok-second.second c.in_ok-first.text.now c.in_ok-second.text.now c.in_ok-second.ensures third in
    rw c.from_residual-in_err-fourth.ensures
    (none_behind 3 c.in_ok-first.first c.args.text.now c.in_ok-first.text.now c.in_ok-first.ensures second)

pub returns-in_err-behind_line : goal.returns-in_err-behind_line
returns-in_err-behind_line c =
    let end = none_at_all c.in_ok-fourth.text.now c.in_err-behind_line.ensures in
    let fourth = none_behind 0 c.in_ok-fourth.fourth c.in_ok-third.text.now c.in_ok-fourth.text.now c.in_ok-fourth.ensures end in
    let third = none_behind 1 c.in_ok-third.third c.in_ok-second.text.now c.in_ok-third.text.now c.in_ok-third.ensures fourth in
    let second = none_behind 2 c.in_ok-second.second c.in_ok-first.text.now c.in_ok-second.text.now c.in_ok-second.ensures third in
    rw c.from_residual-in_err-behind_line.ensures
    (none_behind 3 c.in_ok-first.first c.args.text.now c.in_ok-first.text.now c.in_ok-first.ensures second)
