-- What was written and printed.
use Rattle.std.proofs.Common.{◌≡◌, ◌∙◌, ◌++◌, ◌+◌, ◌-◌, ◌<◌, ◌≤◌, ℕ, [], ◌∷◌, List, Option, Some, None, Result, Ok, Err, OnOk, ap, sym}
use Rattle.std.proofs.{Common.{add-one, arith, append_assoc, drop, get_or, length, length-drop, map, subst, suc, take}, Math.Seq.drop-cons}
use Rattle.std.proofs.{Math.Seq.{take-add, take-suc}, lemmas.List.{append-nil, map-append, take-append-drop, take_all, Folds.concat-append}}
use Rattle.std.specs.{Io.KnownBytes.{Appends, Keeps}, List.concat}
use Rattle.tp_shell.specs.Streams.{IsBegunTo}

-- what was appended remains after later writes
pub appends_kept : (old now new : Option (List ℕ)) (text : List ℕ) → Appends old now text → Keeps now new → Appends old new text
appends_kept None now new text wrote kept = tt
appends_kept (Some xs) None new text wrote kept = absurd wrote
appends_kept (Some xs) (Some ys) None text wrote kept = absurd kept
appends_kept (Some xs) (Some ys) (Some zs) text wrote kept = kept ∙ wrote

-- a text, and then another
pub appends_then : (old now new : Option (List ℕ)) (text more : List ℕ) → Appends old now text → Appends now new more
    → Appends old new (text ++ more)
appends_then None now new text more one two = tt
appends_then (Some xs) None new text more one two = absurd one
appends_then (Some xs) (Some ys) None text more one two = absurd two
appends_then (Some xs) (Some ys) (Some zs) text more one two = two ∙ ap (λ l. l ++ more) one ∙ append_assoc xs text more

-- what holds anyway, holds if there is a value
pub on_ok : {T E P : Type 0} (r : Result T E) → P → OnOk r P
on_ok (Ok x) p = p
on_ok (Err e) p = tt

-- ---- a text, written up to some byte

-- it was begun
pub begun_to : (old new : Option (List ℕ)) (text : List ℕ) (count : ℕ) → Appends old new (take count text) → IsBegunTo old new text
begun_to old new text count wrote = (take count text, drop count text, sym (take-append-drop count text), wrote)

-- what a slice of it has from some byte on
rest_is : (text : List ℕ) (count : ℕ) → take (length text - count) (drop count text) ≡ drop count text
rest_is text count = take_all (length text - count) (drop count text) (omega (arith, length-drop count text))

-- some bytes more were written, which it has
pub fits_more : (text : List ℕ) (count more : ℕ) → count ≤ length text → more ≤ length (take (length text - count) (drop count text))
    → count + more ≤ length text
fits_more text count more within fits =
    let few : more ≤ length (drop count text) = rw (rest_is text count) at fits in
    omega (arith, within, few, length-drop count text)

pub written_more : (old now new : Option (List ℕ)) (text : List ℕ) (count more : ℕ) → Appends old now (take count text)
    → Appends now new (take more (take (length text - count) (drop count text))) → Appends old new (take (count + more) text)
written_more old now new text count more one two =
    let wrote : Appends now new (take more (drop count text)) = subst (λ l. Appends now new (take more l)) (rest_is text count) two in
    subst (Appends old new) (sym (take-add count more text))
    (appends_then old now new (take count text) (take more (drop count text)) one wrote)

-- ---- a text in parts, each the f of an x, and the bytes of one part
module _ {X : Type 0} (f : X → List ℕ) (xs : List X) (i : ℕ) (d : X) (bytes : List ℕ) (is : bytes ≡ f (get_or xs i d))
    (inside : i < length xs) where
  -- the first parts and one more
  parts_more : concat (map f (take (i + 1) xs)) ≡ concat (map f (take i xs)) ++ bytes
  parts_more =
      let step : take (i + 1) xs ≡ take i xs ++ (get_or xs i d ∷ []) = rw add-one (take-suc xs i d inside) in
      ap (λ l. concat (map f l)) step ∙ ap concat (map-append f (take i xs) (get_or xs i d ∷ []))
      ∙ concat-append (map f (take i xs)) (f (get_or xs i d) ∷ [])
      ∙ ap (λ l. concat (map f (take i xs)) ++ l) (append-nil (f (get_or xs i d)) ∙ sym is)

  -- all parts: those before it, it, and those after it
  parts_around : concat (map f xs) ≡ concat (map f (take i xs)) ++ (bytes ++ concat (map f (drop (suc i) xs)))
  parts_around =
      ap (λ l. concat (map f l)) (sym (take-append-drop i xs)) ∙ ap concat (map-append f (take i xs) (drop i xs))
      ∙ concat-append (map f (take i xs)) (map f (drop i xs))
      ∙ ap (λ l. concat (map f (take i xs)) ++ concat (map f l)) (drop-cons xs i d inside)
      ∙ ap (λ l. concat (map f (take i xs)) ++ (l ++ concat (map f (drop (suc i) xs)))) (sym is)

  -- the parts before it were written, and it was
  pub part_written : (old now new : Option (List ℕ)) → Appends old now (concat (map f (take i xs))) → Appends now new bytes
      → Appends old new (concat (map f (take (i + 1) xs)))
  part_written old now new before wrote =
      subst (Appends old new) (sym parts_more) (appends_then old now new (concat (map f (take i xs))) bytes before wrote)

  -- or it was begun
  pub begun_in_parts : (old now new : Option (List ℕ)) → Appends old now (concat (map f (take i xs))) → IsBegunTo now new bytes
      → IsBegunTo old new (concat (map f xs))
  begun_in_parts old now new before (begun, rest, whole, wrote) =
      let done = concat (map f (take i xs)) in
      let later = concat (map f (drop (suc i) xs)) in (
        done ++ begun,
        rest ++ later,
        parts_around ∙ ap (λ l. done ++ (l ++ later)) whole ∙ ap (λ l. done ++ l) (append_assoc begun rest later)
            ∙ sym (append_assoc done begun (rest ++ later)),
        appends_then old now new done begun before wrote,
      )
