use Rattle.pool_blocks.specs.{Grids.{cell_after, last_row, swept_between}, Lists.list_of}
use Rattle.std.proofs.{Common.{◌≡◌, ◌∙◌, ◌+◌, ◌++◌, ap, length, take}, lemmas.Result.IfOk-weaker}
use Rattle.pool_blocks.proofs.grid_mix.sweep_block.Goals as goal

pub returns : goal.returns
returns c =
    let w = c.args.width in
    let own = c.args.own.now in
    let above = c.last_row-above.result.now in
    let below = c.first_row-below.result.now in
    let one : c.extend_from_slice.new.self.items ≡ above =
    c.in_ok-extend_from_slice.ensures.items ∙ ap (λ l. l ++ above) c.in_ok-window.ensures.items in
    let two : c.extend_from_slice-2.new.self.items ≡ above ++ own = c.in_ok-extend_from_slice-2.ensures.items ∙ ap (λ l. l ++ own) one in
    let window : c.as_slice.result.now ≡ (above ++ own) ++ below =
    c.as_slice.ensures.value ∙ c.in_ok-extend_from_slice-3.ensures.items ∙ ap (λ l. l ++ below) two in
    IfOk-weaker c.sweep.result _ _
    (λ made is. (
      is.0 ∙ ap (λ l. list_of (length own) (λ e. cell_after w l (length above + e))) window
          ∙ ap (λ l. swept_between w l own below) c.last_row-above.ensures
          ∙ ap (λ l. swept_between w (last_row w c.args.above.now) own l) c.first_row-below.ensures,
      is.1,
    ))
    c.sweep.ensures
