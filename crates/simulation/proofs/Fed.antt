-- As a round ends: the computed end is the one that the sentence allows, and 41 is at the lowest clock that has none left. Nothing here is about automata.
use mathlib.Core.Path.{◌≡◌, refl, sym, ◌∙◌, ap}
use mathlib.Core.Logic.{◌↔◌}
use mathlib.Core.Option.{Option, none, some, some_inj}
use mathlib.Core.Bool.{Bool, true, false, not, true≢false}
use mathlib.Core.List.{List, [], ◌∷◌}
use Prim.Native.Nat.{ℕ, ◌<◌}
use native.Mathlib.Omega.{arith}
use native.Mathlib.Decide.{dec_lt}
use borrow.Author.Tests.{not-true}
use lib.ListN.{length}
use lib.Seq.{ext_get_or}
use lib.IntN.{ℤ, pos}
use Rattle.laws.specs.Sets.{has, ◌∈◌}
use Rattle.laws.specs.Search.{is_some, least}
use Rattle.laws.specs.Lowest.{Lowest}
use Rattle.laws.proofs.SearchLaws.{no-some, is_none, least-none, least-some, some-least}
use Rattle.laws.proofs.TestLaws.{and-true, not_so}
use Rattle.answer.specs.Limits.{max_clocks}
use Rattle.answer.specs.Told.{Told, Answer, answered, refused, tell}
use Rattle.iosa.specs.TimedExactly.{value_of}
use Rattle.iosa.proofs.Settling.Called.{no_answer, same_answer, same-refusal}
use Rattle.simulation.specs.Simulate.{Supply, Round, taken_by, lacks, fed_at, counted_at, fed, end_of}
use Rattle.simulation.specs.Free.{Takes, Lacks}
use Rattle.simulation.proofs.Each.{each-length, each_at, each-beyond}

module _ (p : Supply) (w : ℕ) (ts : List ℕ) where
  -- ---- a clock that has none left
  lacks-of : (x : ℕ) → x < max_clocks → lacks p w ts x ≡ true → Lacks p w ts x
  unfolding lacks
  lacks-of x b e = let k = and-true (has w x) (not (is_some (p.sample x (taken_by ts x)))) e in
      record { below = b; due = k.0; none_left = is_none (p.sample x (taken_by ts x)) (not-true (is_some (p.sample x (taken_by ts x))) k.1) }

  of-lacks : (x : ℕ) → Lacks p w ts x → lacks p w ts x ≡ true
  unfolding lacks
  of-lacks x l = rw (l.due, l.none_left)

  pub lowest-of : (x : ℕ) → least (lacks p w ts) max_clocks ≡ some x → Lowest (Lacks p w ts) x
  lowest-of x e =
      let l = least-some (lacks p w ts) max_clocks x e in
      record { here = lacks-of x l.below l.here; before = λ y h k. true≢false (sym (of-lacks y k) ∙ l.before y h) }

  pub of-lowest : (x : ℕ) → Lowest (Lacks p w ts) x → least (lacks p w ts) max_clocks ≡ some x
  of-lowest x l =
      let b : x < max_clocks = l.here.below in
      some-least (lacks p w ts) max_clocks x (record {
        below = b;
        here = of-lacks x l.here;
        before = λ y h. not_so (lacks p w ts y) (λ e. l.before y h (lacks-of y (omega arith) e));
      })

  -- ---- the end
  -- a clock that is due, and that no one found to lack its sample, takes it
  next-sample : least (lacks p w ts) max_clocks ≡ none → (x : ℕ) → x < max_clocks → x ∈ w → (n : ℕ) × (p.sample x (taken_by ts x) ≡ some n)
  next-sample e x b i = go (p.sample x (taken_by ts x)) refl
    where
      go : (o : Option ℕ) → p.sample x (taken_by ts x) ≡ o → (n : ℕ) × (p.sample x (taken_by ts x) ≡ some n)
      go (some n) h = (n, h)
      go none h = absurd (true≢false (sym (of-lacks x (record { below = b; due = i; none_left = h })) ∙ least-none (lacks p w ts) max_clocks e x b))

  module _ (s : List ℕ) (vs : List ℤ) (lv : length vs ≡ max_clocks) (lt : length ts ≡ max_clocks) where
    fed-takes : least (lacks p w ts) max_clocks ≡ none → Takes p w vs ts (fed p w s vs ts)
    unfolding fed_at counted_at
    fed-takes e = record {
      count-values = each-length (fed_at p w ts) (pos 0) 0 vs ∙ lv;
      count-taken = each-length (counted_at w) 0 0 ts ∙ lt;
      takes = λ x b i. let n = next-sample e x b i in record {
        ticks = n.0;
        next = n.1;
        value-is = each_at (fed_at p w ts) (pos 0) vs x (omega arith) ∙ rw (i, n.1);
        one_more = each_at (counted_at w) 0 ts x (omega arith) ∙ rw i;
      };
      keeps = λ x i. (kept x i (dec_lt x max_clocks), held x i (dec_lt x max_clocks));
    }
      where
        kept : (x : ℕ) → has w x ≡ false → Dec (x < max_clocks) → value_of (fed p w s vs ts).values x ≡ value_of vs x
        kept x i (yes h) = each_at (fed_at p w ts) (pos 0) vs x (omega arith) ∙ rw i
        kept x i (no h) = each-beyond (fed_at p w ts) (pos 0) vs x (omega arith)

        held : (x : ℕ) → has w x ≡ false → Dec (x < max_clocks) → taken_by (fed p w s vs ts).taken x ≡ taken_by ts x
        held x i (yes h) = each_at (counted_at w) 0 ts x (omega arith) ∙ rw i
        held x i (no h) = each-beyond (counted_at w) 0 ts x (omega arith)

  -- what a round ends with is one
  pub takes-once : {vs : List ℤ} {q o : Round} → q.state ≡ o.state → Takes p w vs ts q → Takes p w vs ts o → q ≡ o
  takes-once {vs} {q} {o} st k l =
      let values = ext_get_or (pos 0) q.values o.values (k.count-values ∙ sym l.count-values)
      (λ x h. value x (omega (arith, k.count-values)) (has w x) refl) in
      let taken = ext_get_or 0 q.taken o.taken (k.count-taken ∙ sym l.count-taken)
      (λ x h. counted x (omega (arith, k.count-taken)) (has w x) refl) in
      λ i. record { state = st i; values = values i; taken = taken i }
    where
      value : (x : ℕ) → x < max_clocks → (b : Bool) → has w x ≡ b → value_of q.values x ≡ value_of o.values x
      value x h true i =
          let a = k.takes x h i in
          let b = l.takes x h i in
          let n : a.ticks ≡ b.ticks = some_inj.0 (sym a.next ∙ b.next) in
          a.value-is ∙ ap pos n ∙ sym b.value-is
      value x h false i = (k.keeps x i).0 ∙ sym (l.keeps x i).0

      counted : (x : ℕ) → x < max_clocks → (b : Bool) → has w x ≡ b → taken_by q.taken x ≡ taken_by o.taken x
      counted x h true i = (k.takes x h i).one_more ∙ sym (l.takes x h i).one_more
      counted x h false i = (k.keeps x i).1 ∙ sym (l.keeps x i).1

  module _ (s : List ℕ) (vs : List ℤ) (lv : length vs ≡ max_clocks) (lt : length ts ≡ max_clocks) where
    abbrev Or : Option ℕ → Answer Round
    Or o = elim o as (λ _. Answer Round) [ some x ↦ refused (tell p.ran_out (x ∷ [])) | none ↦ answered (fed p w s vs ts) ]

    -- "each clock set or reset in it takes one sample", and the state is the one that settling left
    pub end-exactly : (q : Round) → (end_of p w s vs ts ≡ answered q) ↔ ((q.state ≡ s) × Takes p w vs ts q)
    unfolding end_of
    end-exactly q = (go (least (lacks p w ts) max_clocks) refl, back (least (lacks p w ts) max_clocks) refl)
      where
        go : (o : Option ℕ) → least (lacks p w ts) max_clocks ≡ o → Or o ≡ answered q → (q.state ≡ s) × Takes p w vs ts q
        go (some x) l h = absurd (no_answer h)
        go none l h = rw (← same_answer h) (refl, fed-takes s vs lv lt l)

        back : (o : Option ℕ) → least (lacks p w ts) max_clocks ≡ o → (q.state ≡ s) × Takes p w vs ts q → Or o ≡ answered q
        back none l h = ap answered (takes-once (sym h.0) (fed-takes s vs lv lt l) h.1)
        back (some x) l h =
            let k = (lowest-of x l).here in
            let t = h.1.takes x k.below k.due in
            absurd (no-some k.none_left t.next)

    -- 41 "a list ran out (lowest such clock)"
    pub runs-out-exactly : (t : Told) → (end_of p w s vs ts ≡ refused t) ↔ ((x : ℕ) × Lowest (Lacks p w ts) x × (t ≡ tell p.ran_out (x ∷ [])))
    unfolding end_of
    runs-out-exactly t = (go (least (lacks p w ts) max_clocks) refl, λ h. ap Or (of-lowest h.0 h.1) ∙ ap refused (sym h.2))
      where
        go : (o : Option ℕ) → least (lacks p w ts) max_clocks ≡ o → Or o ≡ refused t → (x : ℕ) × Lowest (Lacks p w ts) x × (t ≡ tell p.ran_out (x ∷ []))
        go (some x) l h = (x, lowest-of x l, sym (same-refusal h))
        go none l h = absurd (no_answer (sym h))
