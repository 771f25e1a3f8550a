use Rattle.std.proofs.Common.{◌/◌, ◌∙◌, sym, ap, refl, arith}
use Rattle.tp_base.specs.Pages.{flat}
use Rattle.tp_base.proofs.Pages.{is_some_by, no_place, on_err, on_ok, page_at, places_made, places_stay, same_values, whole_set}
use Rattle.tp_base.proofs.table.make_place.Goals as goal

pub returns-clause-whole : goal.returns-clause-whole
returns-clause-whole g c =
    whole_set c.add_pages.new.pages.items (c.args.key / 64) c.fill_page.new.page c.add_pages.ensures.whole c.fill_page.ensures.whole

pub returns-clause-values : goal.returns-clause-values
returns-clause-values g c k =
    let is = page_at c.add_pages.new.pages (c.args.key / 64) c.index_mut.result.now c.in_ok-add_pages.ensures.made
    c.index_mut.ensures.value in
    same_values _ (c.args.key / 64) c.index_mut.result.now c.fill_page.new.page is c.fill_page.ensures.values k
    ∙ ap flat (c.add_pages.ensures.places k)

pub returns-clause-made : goal.returns-clause-made
returns-clause-made g c =
    let is = page_at c.add_pages.new.pages (c.args.key / 64) c.index_mut.result.now c.in_ok-add_pages.ensures.made
    c.index_mut.ensures.value in
    on_ok c.fill_page.result _ _ c.fill_page.ensures.made
    (λ full. places_made _ (c.args.key / 64) c.index_mut.result.now c.fill_page.new.page is full c.args.key refl)

pub returns-clause-page : goal.returns-clause-page
returns-clause-page g c =
    let is = page_at c.add_pages.new.pages (c.args.key / 64) c.index_mut.result.now c.in_ok-add_pages.ensures.made
    c.index_mut.ensures.value in
    on_ok c.fill_page.result _ _ c.fill_page.ensures.made
    (λ full k row. places_made _ (c.args.key / 64) c.index_mut.result.now c.fill_page.new.page is full k row)

pub returns-clause-grows : goal.returns-clause-grows
returns-clause-grows g c =
    let is = page_at c.add_pages.new.pages (c.args.key / 64) c.index_mut.result.now c.in_ok-add_pages.ensures.made
    c.index_mut.ensures.value in
    on_err c.fill_page.result _ _ c.fill_page.ensures.grows
    (λ past. sym (c.add_pages.ensures.places c.args.key)
    ∙ no_place _ (c.args.key / 64) c.index_mut.result.now c.fill_page.new.page is c.args.key refl past)

pub returns-clause-keeps : goal.returns-clause-keeps
returns-clause-keeps g c k has =
    let is = page_at c.add_pages.new.pages (c.args.key / 64) c.index_mut.result.now c.in_ok-add_pages.ensures.made
    c.index_mut.ensures.value in
    let old = c.index_mut.result.now in
    let new = c.fill_page.new.page in
    places_stay _ (c.args.key / 64) old new is (omega (arith, c.fill_page.ensures.keeps, old.ok.0, new.ok.0)) k
    (is_some_by _ _ (c.add_pages.ensures.places k) has)
