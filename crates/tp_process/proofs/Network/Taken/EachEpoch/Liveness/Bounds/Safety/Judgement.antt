-- The steps at the end of a wave preserve the invariant: a process passes the wave up; process 0 judges it and starts
-- the next one.
pub mod Steps
pub use Steps.*

counts_equal : (a b : Counts) → a.sent ≡ b.sent → a.received ≡ b.received → a ≡ b
counts_equal a b e f = ap (λ s. record { sent = s; received = a.received }) e ∙ ap (λ r. record { sent = b.sent; received = r }) f

-- what a process and all processes below it have counted
abbrev pub ours : EpochState → Counts
ours p = record { sent = p.taken_sent + p.sent; received = p.taken_received + p.received }

abbrev pub with_gift : ℕ → EpochState → Gifts → Gifts
with_gift i p g = record { own = put i (mine p) g.own; all = put i (ours p) g.all }

module _ (n q w i : ℕ) (low : ℕ → ℕ) (g : Gifts) (x : World) (l : i < n) (v : Inv n q w low g x) (there : (x.at i).here ≡ true)
    (idle : (x.at i).pending ≡ 0) (no_left : (x.at i).up_left ≡ false) (no_right : (x.at i).up_right ≡ false) where
  pub give_keeps : (known : Bool) (last : ℕ) → Keeps w g (with_gift i (x.at i) g) i (x.at i) (gone (x.at i) known last)
  give_keeps known last = grind (arith, nat_tests, there)

  give_own : (roof : ℕ → ℕ) (known : Bool) (last : ℕ) → roof i ≤ (x.at i).sent
      → Holds n w roof (with_gift i (x.at i) g) (put i (gone (x.at i) known last) x.at) i (gone (x.at i) known last)
  give_own roof known last under =
      let hold : Holds n w low g x.at i (x.at i) = v.each i l in let z : Here n w g x.at i (x.at i) = hold.here there in
      let new : EpochState = gone (x.at i) known last in
      let k : Keeps w g (with_gift i (x.at i) g) i (x.at i) new = give_keeps known last in
      let kept = given_kept n w i g (with_gift i (x.at i) g) x.at new k in record {
        place = hold.place;
        floor = under;
        above = λ p e. wave_kept n w i g (with_gift i (x.at i) g) x.at new k (parent i) (hold.above p e);
        given = λ y. record {
          sent = rw (eq-eqb i i refl) (omega arith);
          received = rw (eq-eqb i i refl) (omega arith);
          idle = λ b e. idle;
          gave = (λ m. kept (2 * i + 1) (z.gave.0 no_left m), λ m. kept (2 * i + 2) (z.gave.1 no_right m));
          sums =
              rw (eq-eqb i i refl, ne_eqb (2 * i + 1) i (λ e. absurd (omega arith)), ne_eqb (2 * i + 2) i (λ e. absurd (omega arith)))
              (counts_equal _ _ (omega (arith, rw (no_left, no_right) at z.sent)) (omega (arith, rw (no_left, no_right) at z.received)));
        };
        here = λ f. absurd (cc f);
      }

  -- A process passes the wave up to its parent.
  pub give_step : (i ≡ 0 → ⊥) → Inv n q w low (with_gift i (x.at i) g) (record x {
    at = put i (record (x.at i) { here = false }) x.at;
    controls = control (x.at i) (parent (x.at i).number) (report_of (x.at i)) ∷ x.controls;
  })
  give_step below =
      let hold : Holds n w low g x.at i (x.at i) = v.each i l in
      let new : EpochState = gone (x.at i) (x.at i).known (x.at i).last_received in
      let post : ControlMessage = control (x.at i) (parent (x.at i).number) (report_of (x.at i)) in
      let more : (a : ControlMessage) → Has x.controls a → Has (post ∷ x.controls) a = λ a h. has_more post a x.controls h in
      control_step n q w i low g (with_gift i (x.at i) g) x l v new (give_keeps (x.at i).known (x.at i).last_received)
      (record { pending = refl; sent = refl; received = refl; over = refl; known = refl; last = refl }) (post ∷ x.controls)
      (give_own low (x.at i).known (x.at i).last_received hold.floor)
      (λ e. absurd (below e)) (λ y. (rw (eq-eqb i i refl) hold.floor, rw (eq-eqb i i refl)))
      (all_more (KnownOf n w (with_gift i (x.at i) g) (changed i new x.under_way (post ∷ x.controls) x)) post x.controls (
        (
          hold.near,
          λ e. rw hold.number (record {
            given = rw (eq-eqb i i refl) (record { wave = (hold.here there).wave; gone = refl });
            sent = rw (eq-eqb i i refl);
            received = rw (eq-eqb i i refl);
          }),
        ),
        λ e. subst (λ j. (put i new x.at (parent j)).wave ≡ w) (sym hold.number)
            (wave_kept n w i g (with_gift i (x.at i) g) x.at new (give_keeps (x.at i).known (x.at i).last_received) (parent i)
            (hold.above (omega (arith, below)) (hold.here there).wave)),
      )) more (record {
        down = λ f. absurd (cc f);
        up = λ a b k f. (
          (x.at i).taken_sent + (x.at i).sent,
          (x.at i).taken_received + (x.at i).received,
          record { which = 0; there = rw (hold.number, hold.processes, (hold.here there).wave) },
        );
        over = (posts_more n w x.controls (post ∷ x.controls) i (x.at i) more (v.posts i l)).over;
      })

-- If the children of process 0 have passed the wave up, all processes below have.
given_below : (n q w : ℕ) (low : ℕ → ℕ) (g : Gifts) (x : World) → Inv n q w low g x → ChildrenGave n w x.at 0
    → (j : ℕ) → 0 < j → j < n → HasGiven w (x.at j)
given_below n q w low g x v top j p m =
    down_tree n (λ j. 0 < j → HasGiven w (x.at j)) (λ p. absurd (omega arith)) (λ i l up.
    let kids : ChildrenGave n w x.at i = elim (cases_eq i 0) [
      | inl e ↦ subst (ChildrenGave n w x.at) (sym e) top
      | inr off ↦ ((v.each i l).given (up (omega (arith, off)))).gave
    ] in (λ a p. kids.0 a, λ a p. kids.1 a)) (suc j) j (omega arith) m p

-- The wave ends at process 0: it is idle, and its children have reported.
module _ (n q w : ℕ) (low : ℕ → ℕ) (g : Gifts) (x : World) (l : 0 < n) (v : Inv n q w low g x) (there : (x.at 0).here ≡ true)
    (idle : (x.at 0).pending ≡ 0) (no_left : (x.at 0).up_left ≡ false) (no_right : (x.at 0).up_right ≡ false) where
  pub all_given : (j : ℕ) → 0 < j → j < n → HasGiven w (x.at j)
  all_given j p m =
      let z : Here n w g x.at 0 (x.at 0) = (v.each 0 l).here there in
      given_below n q w low g x v (z.gave.0 no_left, z.gave.1 no_right) j p m

  -- process 0 after the judgement, if the end was not detected
  abbrev judged : EpochState
  judged = gone (x.at 0) true ((x.at 0).taken_received + (x.at 0).received)

  keeps : Keeps w g (with_gift 0 (x.at 0) g) 0 (x.at 0) judged
  keeps = give_keeps n q w 0 low g x l v there idle no_left no_right true ((x.at 0).taken_received + (x.at 0).received)

  -- the invariant of each process after that
  held : (j : ℕ) → j < n → Holds n w (λ j. (x.at j).sent) (with_gift 0 (x.at 0) g) (put 0 judged x.at) j (put 0 judged x.at j)
  held j m =
      put_holds (λ j z. Holds n w (λ j. (x.at j).sent) (with_gift 0 (x.at 0) g) (put 0 judged x.at) j z) 0 j judged x.at (λ e. rw e
      (give_own n q w 0 low g x l v there idle no_left no_right (λ j. (x.at j).sent) true ((x.at 0).taken_received + (x.at 0).received)
      (omega arith))) (λ off. holds_kept n w 0 g (with_gift 0 (x.at 0) g) x.at judged keeps l low (λ j. (x.at j).sent) j (x.at j)
      (λ y. (keeps.own j off, keeps.all j off)) (omega arith) (v.each j m))

  visited : (j : ℕ) → j < n → Visited n w (with_gift 0 (x.at 0) g) (put 0 judged x.at) j (put 0 judged x.at j)
  visited j m =
      (held j m).given (put_holds (λ j z. HasGiven w z) 0 j judged x.at (λ e. record { wave = v.root.wave; gone = refl })
      (λ off. all_given j (omega (arith, off)) m))

  beyond_kept : (c : ℕ) → n ≤ c → (with_gift 0 (x.at 0) g).all c ≡ none
  beyond_kept c m = put_other 0 c (ours (x.at 0)) g.all (λ e. absurd (omega (arith, e))) ∙ v.beyond c m

  -- The sums at process 0 are the sums of all reports.
  sent_in_all : total n (λ j. ((with_gift 0 (x.at 0) g).own j).sent) ≡ (x.at 0).taken_sent + (x.at 0).sent
  sent_in_all =
      tree_sum n _ (λ j. ((with_gift 0 (x.at 0) g).all j).sent)
      (λ j m. ap (λ z. z.sent) (visited j m).sums) (λ c m. ap (λ z. z.sent) (beyond_kept c m))

  received_in_all : total n (λ j. ((with_gift 0 (x.at 0) g).own j).received) ≡ (x.at 0).taken_received + (x.at 0).received
  received_in_all =
      tree_sum n _ (λ j. ((with_gift 0 (x.at 0) g).all j).received)
      (λ j m. ap (λ z. z.received) (visited j m).sums) (λ c m. ap (λ z. z.received) (beyond_kept c m))

  -- The wave counts at least as many sent messages as there were when the wave before it ended.
  floor_in_all : total n low ≤ (x.at 0).taken_sent + (x.at 0).sent
  floor_in_all =
      let each : (j : ℕ) → j < n → low j ≤ ((with_gift 0 (x.at 0) g).own j).sent = λ j m.
      put_holds (λ j z. low j ≤ z.sent) 0 j (mine (x.at 0)) g.own (λ e. rw e (v.each 0 l).floor)
      (λ off. v.root.floors there j m (all_given j (omega (arith, off)) m)) in
      omega (arith, total-le n low (λ j. ((with_gift 0 (x.at 0) g).own j).sent) each, sent_in_all)

  -- The four counter test is sound: if the two numbers are equal, the world is quiet. And the second is never less.
  pub end_is_quiet : (x.at 0).known ≡ true → (x.at 0).last_received ≡ (x.at 0).taken_sent + (x.at 0).sent → IsQuiet n x
  end_is_quiet known same = v.root.quiet known (omega (arith, v.root.last known, floor_in_all, same))

  pub no_less : (x.at 0).known ≡ true → (x.at 0).last_received ≤ (x.at 0).taken_sent + (x.at 0).sent
  no_less known = omega (arith, v.root.last known, floor_in_all)

  same_received : total n (λ j. (put 0 judged x.at j).received) ≡ total n (λ j. (x.at j).received)
  same_received = total_same-put n 0 judged x.at (λ z. z.received) refl

  less_received : (j : ℕ) → j < n → ((with_gift 0 (x.at 0) g).own j).received ≤ (put 0 judged x.at j).received
  less_received j m = (visited j m).received

  -- The wave counts at most as many received messages as were sent by its end,
  last_in_all : (x.at 0).taken_received + (x.at 0).received ≤ total n (λ j. (x.at j).sent)
  last_in_all = omega (arith, received_in_all, total-le n _ _ less_received, same_received, v.balance)

  -- and if it counts as many, the world is quiet.
  quiet_there : (x.at 0).taken_received + (x.at 0).received ≡ total n (λ j. (x.at j).sent) → IsQuiet n (record x { at = put 0 judged x.at })
  quiet_there enough =
      let begun : 0 < w = ((v.each 0 l).here there).begun in record {
        idle = λ j m. (visited j m).idle begun
            (total_same n _ _ less_received (omega (arith, enough, received_in_all, same_received, v.balance)) j m);
        none_under_way = λ j m. sym (total_same n (λ j. 0) x.under_way (λ j m. omega arith)
            (omega (arith, enough, received_in_all, total-le n _ _ less_received, same_received, v.balance, total-zero n)) j m);
      }

  -- A wave that began after the last message was sent or received has the exact sums.
  own_now : q < w → (j : ℕ) → j < n → (with_gift 0 (x.at 0) g).own j ≡ mine (x.at j)
  own_now m j k =
      put_holds (λ j z. z ≡ mine (x.at j)) 0 j (mine (x.at 0)) g.own (λ e. rw e)
      (λ off. v.pace.late m j k (all_given j (omega (arith, off)) k))

  judge_pace : is_end (x.at 0) ≡ false → Pace n q w (with_gift 0 (x.at 0) g) (record x { at = put 0 judged x.at })
  judge_pace more =
      let sent_now : q < w → (x.at 0).taken_sent + (x.at 0).sent ≡ total n (λ j. (x.at j).sent)
      = λ m. sym sent_in_all ∙ total-equal n _ _ (λ j k. ap (λ z. z.sent) (own_now m j k)) in
      let received_now : q < w → (x.at 0).taken_received + (x.at 0).received ≡ total n (λ j. (x.at j).received)
      = λ m. sym received_in_all ∙ total-equal n _ _ (λ j k. ap (λ z. z.received) (own_now m j k)) in record {
        past = v.pace.past;
        late = λ m j k y. own_now m j k ∙ sym (put_same mine 0 j judged x.at refl);
        during = λ f. absurd (cc f);
        between = λ f m. (refl, received_now m ∙ sym same_received);
        few = v.pace.few;
        fewer = λ e f.
            let d = v.pace.during there in grind (arith, nat_tests, d, sent_now, v.balance, e, more);
      }

  -- The wave ends and the end is not detected.
  pub judge_step : is_end (x.at 0) ≡ false → Inv n q w (λ j. (x.at j).sent) (with_gift 0 (x.at 0) g) (record x { at = put 0 judged x.at })
  judge_step more =
      let h : Gifts = with_gift 0 (x.at 0) g in let y : World = record x { at = put 0 judged x.at } in
      let ended : Finished n w x → Finished n w y
      = finished_put n w 0 g h x judged x.under_way x.controls keeps (quiet_put n 0 x judged x.controls (λ e. e)) (λ e o. o) in record {
        balance = balance_same n 0 x judged refl refl v.balance;
        each = held;
        beyond = beyond_kept;
        root = record { wave = v.root.wave; floors = λ f. absurd (cc f); last = λ f. last_in_all; quiet = λ f e. quiet_there e };
        over = λ j m f. ended (v.over j m (sym (put_same (λ z. z.over) 0 j judged x.at refl) ∙ f));
        controls = controls_kept n w 0 g h x y judged keeps refl ended x.controls v.controls;
        pace = judge_pace more;
        posts = λ j m. put_holds (λ j z. Posts n w x.controls j z) 0 j judged x.at (λ e. rw e
            (record { down = λ f. absurd (cc f); up = λ a. absurd (omega (arith, a)); over = (v.posts 0 l).over })) (λ off. v.posts j m);
        small = λ j m. put_keeps IsSmall 0 j judged x.at (λ o. o) (v.small j m);
      }

-- Process 0 starts the next wave.
module _ (n q w : ℕ) (low : ℕ → ℕ) (g : Gifts) (x : World) (l : 0 < n) (v : Inv n q w low g x) (away : (x.at 0).here ≡ false) where
  pub given_before : (j : ℕ) → j < n → HasGiven w (x.at j)
  given_before j m =
      let top : HasGiven w (x.at 0) = record { wave = v.root.wave; gone = away } in
      let z : Visited n w g x.at 0 (x.at 0) = (v.each 0 l).given top in
      elim (cases_eq j 0) [ inl e ↦ rw e top | inr off ↦ given_below n q w low g x v z.gave j (omega (arith, off)) m ]

  later_known : (y : World) → (Finished n w x → Finished n (w + 1) y) → All (KnownOf n (w + 1) g y) x.controls
  later_known y quiet k a there =
      let t = v.controls k a there in (later a.from a.wave a.token t.0, way a.from a.to a.wave a.token t.0 t.1)
    where
      later : (from wave : ℕ) (c : Token) → Known n w g x from wave c → Known n (w + 1) g y from wave c
      later from wave Over t = quiet t
      later from wave _ t = grind (arith, t)

      way : (from to wave : ℕ) (c : Token) → Known n w g x from wave c → Path w x.at from to wave c → Path (w + 1) y.at from to wave c
      way from to wave Over t p = tt
      way from to wave _ t p = grind (arith, t, p)

  pub start_step : (x.at 0).over ≡ false → Inv n q (w + 1) low g (record x { at = put 0 (opens ((x.at 0).wave + 1) (x.at 0)) x.at })
  start_step open_yet =
      let u : ℕ = (x.at 0).wave + 1 in let new : EpochState = opens u (x.at 0) in let y : World = record x { at = put 0 new x.at } in
      let next : u ≡ w + 1 = omega (arith, v.root.wave) in let hold : Holds n w low g x.at 0 (x.at 0) = v.each 0 l in
      let quiet : IsQuiet n x → IsQuiet n y = quiet_put n 0 x new x.controls (λ e. e) in
      let ended : Finished n w x → Finished n (w + 1) y = λ f. absurd (cc (f.root.over, open_yet)) in
      let none_gave : (j : ℕ) → j < n → HasGiven (w + 1) (put 0 new x.at j) → ⊥ = λ j m.
      put_holds (λ j z. HasGiven (w + 1) z → ⊥) 0 j new x.at (λ e k. absurd (cc k.gone))
      (λ off k. absurd (omega (arith, k.wave, (given_before j m).wave))) in record {
        balance = balance_same n 0 x new refl refl v.balance;
        each = λ j m. put_holds (λ j z. j < n → Holds n (w + 1) low g (put 0 new x.at) j z) 0 j new x.at (λ e m. record {
          place = record {
            number = hold.number ∙ sym e;
            processes = hold.processes;
            near = omega (arith, next);
            close = omega (arith, next);
          };
          floor = rw e hold.floor;
          above = λ p f. absurd (omega (arith, p, e));
          given = λ k. absurd (cc k.gone);
          here = λ f. rw (e, next)
              (opens_here n (w + 1) 0 low g (put 0 (opens (w + 1) (x.at 0)) x.at) (x.at 0) hold.number hold.processes
              (omega arith) v.beyond);
        }) (λ off m.
            let k : HasGiven w (x.at j) = given_before j m in let h : Holds n w low g x.at j (x.at j) = v.each j m in record {
              place = record { number = h.number; processes = h.processes; near = omega (arith, k.wave); close = omega (arith, k.wave) };
              floor = h.floor;
              above = λ p f. absurd (omega (arith, f, k.wave));
              given = λ z. absurd (omega (arith, z.wave, k.wave));
              here = λ f. absurd (cc (f, k.gone));
            }) m;
        beyond = v.beyond;
        root = record {
          wave = next;
          floors = λ f j m k. absurd (none_gave j m k);
          last = v.root.last;
          quiet = λ f e. quiet (v.root.quiet f e);
        };
        over = λ j m f. ended (v.over j m (sym (put_same (λ z. z.over) 0 j new x.at refl) ∙ f));
        controls = later_known y ended;
        pace = record {
          past = omega (arith, v.pace.past);
          late = λ m j k y. absurd (none_gave j k y);
          during = λ f m.
              let z = v.pace.between away (omega arith) in (z.0, z.1 ∙ sym (total_same-put n 0 new x.at (λ z. z.received) refl));
          between = λ f. absurd (cc f);
          few = λ e. omega (arith, v.pace.fewer e away);
          fewer = λ e f. absurd (cc f);
        };
        posts = λ j m. put_holds (λ j z. Posts n (w + 1) x.controls j z) 0 j new x.at (λ e. rw e (record {
          down = λ f. no_child n 0 (x.at 0) (λ c. Has x.controls (control_of n 0 c (w + 1) Down)) hold.number hold.processes;
          up = λ a. absurd (omega (arith, a));
          over = (v.posts 0 l).over;
        })) (λ off.
            let k : HasGiven w (x.at j) = given_before j m in
            record { down = λ f. absurd (cc (f, k.gone)); up = λ a b z f. absurd (omega (arith, z, k.wave)); over = (v.posts j m).over });
        small = λ j m. put_keeps IsSmall 0 j new x.at (λ o. o) (v.small j m);
      }
