use Rattle.std.{proofs.Common.{◌/◌, ◌%◌, Some, refl, arith}, specs.Vec.with_item}
use Rattle.tp_base.proofs.Pages.{page_at, put_keeps, put_value, row_there, whole_at, whole_set}
use Rattle.tp_base.proofs.table.put_near.Goals as goal

pub returns-clause-whole : goal.returns-clause-whole
returns-clause-whole g c =
    let pages = c.args.pages.now in
    let old = c.index_mut-page.result.now in
    let is = page_at pages (c.args.key / 64) old (omega (arith, row_there pages.items c.args.key c.requires.there, pages.ok.0))
    c.index_mut-page.ensures.value in
    whole_set pages.items (c.args.key / 64) (with_item old (c.args.key % 64) (Some c.args.value)) c.requires.whole
    (whole_at pages.items _ _ c.requires.whole is)

pub returns-clause-values : goal.returns-clause-values
returns-clause-values g c k =
    let pages = c.args.pages.now in
    let old = c.index_mut-page.result.now in
    let is = page_at pages (c.args.key / 64) old (omega (arith, row_there pages.items c.args.key c.requires.there, pages.ok.0))
    c.index_mut-page.ensures.value in
    put_value pages.items c.args.key old (with_item old (c.args.key % 64) (Some c.args.value)) c.args.value is refl c.requires.there k

pub returns-clause-keeps : goal.returns-clause-keeps
returns-clause-keeps g c k has =
    let pages = c.args.pages.now in
    let old = c.index_mut-page.result.now in
    let is = page_at pages (c.args.key / 64) old (omega (arith, row_there pages.items c.args.key c.requires.there, pages.ok.0))
    c.index_mut-page.ensures.value in
    put_keeps pages.items c.args.key old (with_item old (c.args.key % 64) (Some c.args.value)) c.args.value is refl c.requires.there k has
