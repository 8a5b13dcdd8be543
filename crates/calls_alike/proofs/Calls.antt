-- Merging does not matter, of the calls: on a table and on the one that `merge` wrote, `accept` and `confluent` pass, and `settle` and `settle_list`
-- answer the same; and three are merged either way into one image.
use mathlib.Core.Path.{◌≡◌, refl, sym, ◌∙◌, ap, subst}
use mathlib.Core.Option.{Option, none, some}
use mathlib.Core.List.{List, ◌∷◌}
use Prim.Native.Nat.{ℕ, suc}
use lib.ListN.{length, take}
use Rattle.answer.specs.Told.{Told, Answer, answered, says_checked}
use Rattle.answer.specs.State.{parts_of}
use Rattle.answer.specs.declared.State.{State}
use Rattle.answer.specs.declared.Settled.{Settled}
use Rattle.std.specs.Prelude.{Result, Ok, Err}
use Rattle.answer.specs.declared.Refusal.{Refusal}
use Rattle.answer.proofs.SaysFixes.{verdict-fixed, refused-fixed}
use Rattle.answer.proofs.StateLaws.{parts-length, with-parts}
use Rattle.model.specs.Model.{Comp, Model}
use Rattle.model.specs.WellFormed.{WellFormed}
use Rattle.iosa.specs.Product.{Within, Reached}
use Rattle.iosa.specs.Checks.{accept_of, confluent_of}
use Rattle.iosa.specs.Step.{unless}
use Rattle.iosa.specs.Settle.{settle_of, settle_list_of}
use Rattle.iosa.specs.Orders.{Settling}
use Rattle.merged.specs.MergedExactly.{paired_at}
use Rattle.iosa.proofs.Acceptance.Accepted.{accepted-exactly}
use Rattle.iosa.proofs.Acceptance.ConfluentExactly.{confluent-accepted}
use Rattle.iosa.proofs.Settling.Parts.{within-length}
use Rattle.iosa.proofs.Settling.Called.{settle-answers-exactly, settle-list-answers-exactly, demand-3-of-the-call}
use Rattle.iosa.proofs.Settling.Listed.{list-that-is-a-series}
use Rattle.answering.proofs.Answers.Models.{settle-model-exactly, settle-list-model-exactly}
use Rattle.layout.specs.Layout.{image_words}
use Rattle.layout.specs.Image.{image_of}
use Rattle.layout.specs.OnImage.{Holds}
use Rattle.table.specs.OnTable.{on_table, check_on}
use Rattle.table.proofs.OnTableLaws.{on-image}
use Rattle.table.proofs.ImageExactly.{image-exactly}
use Rattle.table.proofs.CheckedLaws.{fine-passes}
use Rattle.table.proofs.OnImageExactly.{holds-image, held-model}
use Rattle.settling.specs.Gives.{SettleAnswers, traced}
use Rattle.admit.specs.Admit.{Accepted, Confluently}
use Rattle.merge.specs.Merging.{Merging}
use Rattle.run.specs.Calls.{SettleCall, SettleListCall, trace_after}
use Rattle.run.specs.Demand3.{SettledFrom}
use Rattle.alike.specs.Alike.{MergedInto, SameAnswer, both_settle, both-refuse}
use Rattle.alike.proofs.Models.{known, either_way}
use Rattle.alike.proofs.Confluence.{merging-keeps-confluence}
use Rattle.alike.proofs.Whole.{the-settling-stays, the-listing-stays}
use Rattle.calls_alike.specs.CallsAlike.{SameSettled, SameAgain}
use Rattle.calls_alike.proofs.Merged.{one-held, Written, merge-writes}

-- what computes of a table is what computes of the model that it holds
on-held : {A : Type 0} (t : List ℕ) (m : Model) → Holds t m → (f : Model → Answer A) → on_table t f ≡ f m
on-held t m h f = on-image t f ((image-exactly t).1 (holds-image h)) ∙ ap f (held-model t m h)

-- ---- 10 to 17, and 18
module _ (t : List ℕ) (i : ℕ) (was into : List ℕ) (g : Merging t i was (Ok tt) into) where
  w : Written t i into
  w = merge-writes t i was into g

  passing : (check : Model → Option Told) → check w.after ≡ none → says_checked (Ok tt) ≡ some (check_on into check)
  unfolding says_checked
  passing check e = ap some (sym (on-held into w.after w.holds-again (λ n. unless (check n) tt) ∙ ap (λ o. unless o tt) e))

  -- "gives one that passes too"
  pub merged-table-is-accepted : Accepted into (Ok tt)
  merged-table-is-accepted =
      let k = known w.before i w.after w.holds.well w.conforming w.joinable w.merged-into in
      passing accept_of ((accepted-exactly w.after k.exact.well-formed).1 (k.conforming, k.joinable))

  -- "Where it passed 18 before, so does the merged one"
  pub merged-table-is-confluent : Confluently t (Ok tt) → Confluently into (Ok tt)
  merged-table-is-confluent e =
      let k = known w.before i w.after w.holds.well w.conforming w.joinable w.merged-into in
      let passed : confluent_of w.before ≡ none = subst (λ m. confluent_of m ≡ none) (held-model t w.before w.holds) (fine-passes t confluent_of e).1 in
      passing confluent_of (merging-keeps-confluence w.before i none w.after w.holds.well k.answers passed)

  -- the models that the tables hold are these
  held-into : (m n : Model) → Holds t m → Holds into n → MergedInto m i n
  held-into m n h k =
      let e = one-held t w.before m w.holds h in
      let f = one-held into w.after n w.holds-again k in
      subst (λ x. MergedInto m i x) f (subst (λ x. MergedInto x i w.after) e w.merged-into)

-- ---- what two answers leave
module _ (m : Model) (i : ℕ) (x y : State) where
  alike : {a b : Answer (Settling (List ℕ))} → SameAnswer m i a b → ((d : Settling (List ℕ)) → a ≡ answered d → length d.state ≡ x.count)
      → ((d : Settling (List ℕ)) → b ≡ answered d → length d.state ≡ y.count) → (r q : Result Settled Refusal) → SettleAnswers a x r → SettleAnswers b y q
      → SameSettled m i r q
  alike (both_settle {d = d} {e = e} s) f h (Ok r) (Ok q) u v = record {
    verdict = verdict-fixed q.verdict r.verdict (v.verdict ∙ s.verdict ∙ sym u.verdict);
    count = v.steps ∙ s.count ∙ sym u.steps;
    resets = v.resets ∙ s.resets ∙ sym u.resets;
    end =
        ap parts_of v.state ∙ with-parts y e.state (h e refl) ∙ s.end
        ∙ ap (paired_at m i) (sym (ap parts_of u.state ∙ with-parts x d.state (f d refl)));
  }
  alike (both_settle s) f h (Ok r) (Err q) u v = absurd v
  alike (both_settle s) f h (Err r) q u v = absurd u
  alike (both-refuse {t = t}) f h (Ok r) q u v = absurd u
  alike (both-refuse {t = t}) f h (Err r) q u v = refused-fixed q (Err r) t v u

traces-alike : (m : Model) (i : ℕ) (old : List ℕ) {a b : Answer (Settling (List ℕ))} → SameAnswer m i a b → trace_after b old ≡ trace_after a old
traces-alike m i old (both_settle s) = ap (λ l. traced l old) s.trace
traces-alike m i old both-refuse = refl

-- a state in range of the model that a table holds has as many numbers as its count says
module _ (c : Comp) (cs : List Comp) (well : WellFormed (c ∷ cs)) (x : State) where
  in-range : (s : List ℕ) → Within (c ∷ cs) (parts_of x) → Within (c ∷ cs) s → length s ≡ x.count
  in-range s v u = within-length (c ∷ cs) s u ∙ sym (within-length (c ∷ cs) (parts_of x) v) ∙ parts-length x

  settled-length : (budget room : ℕ) (d : Settling (List ℕ)) → settle_of (c ∷ cs) (parts_of x) budget room ≡ answered d → length d.state ≡ x.count
  settled-length budget room d e =
      let p = (settle-answers-exactly (c ∷ cs) (parts_of x) budget room d).0 e in
      in-range d.state p.1.0 (demand-3-of-the-call c cs well (parts_of x) budget room d e).run.range

  listed-length : (l : List ℕ) (d : Settling (List ℕ)) → settle_list_of (c ∷ cs) (parts_of x) l ≡ answered d → length d.state ≡ x.count
  listed-length l d e =
      let p = (settle-list-answers-exactly (c ∷ cs) (parts_of x) l d).0 e in
      let k = (accepted-exactly (c ∷ cs) well).0 (confluent-accepted (c ∷ cs) p.0) in
      in-range d.state p.1.0 ((list-that-is-a-series c cs well k.0 k.1 (parts_of x) p.1.0 l d).0 p.3).range

-- where it answers, the state has as many numbers as the state that it began in
abbrev Long : (Model → List ℕ → Answer (Settling (List ℕ))) → Type 0
Long f = (c : Comp) (cs : List Comp) → WellFormed (c ∷ cs) → (z : State) (d : Settling (List ℕ)) → f (c ∷ cs) (parts_of z) ≡ answered d
    → length d.state ≡ z.count

-- ---- "settling from a composed state that both accept": of the table from x, and of the one that `merge` wrote from y, which has the pairs of x
module _ (t : List ℕ) (i : ℕ) (was into : List ℕ) (g : Merging t i was (Ok tt) into) (x y : State) (before : SettledFrom t x) (after : SettledFrom into y)
    (pairs : parts_of y ≡ paired_at (before.first ∷ before.others) i (parts_of x)) where
  abbrev m : Model
  m = before.first ∷ before.others

  abbrev n : Model
  n = after.first ∷ after.others

  into-n : MergedInto (before.first ∷ before.others) i (after.first ∷ after.others)
  into-n = held-into t i was into g m n before.holds after.holds

  paired : Reached (after.first ∷ after.others) (paired_at (before.first ∷ before.others) i (parts_of x))
  paired = subst (Reached n) pairs after.reached

  -- a call that answers of a table what f answers of the model that it holds
  module _ (f : Model → List ℕ → Answer (Settling (List ℕ))) (long : Long f)
      (stays : SameAnswer (before.first ∷ before.others) i (f (before.first ∷ before.others) (parts_of x))
      (f (after.first ∷ after.others) (paired_at (before.first ∷ before.others) i (parts_of x)))) where
    on-first : on_table t (λ z. f z (parts_of x)) ≡ f (before.first ∷ before.others) (parts_of x)
    on-first = on-held t m before.holds (λ z. f z (parts_of x))

    on-second : on_table into (λ z. f z (parts_of y)) ≡ f (after.first ∷ after.others) (parts_of y)
    on-second = on-held into n after.holds (λ z. f z (parts_of y))

    same-on : SameAnswer (before.first ∷ before.others) i (on_table t (λ z. f z (parts_of x))) (on_table into (λ z. f z (parts_of y)))
    same-on = subst (λ a. SameAnswer m i a (on_table into (λ z. f z (parts_of y)))) (sym on-first)
        (subst (SameAnswer m i (f m (parts_of x))) (sym (on-second ∙ ap (f n) pairs)) stays)

    tables-alike : (r q : Result Settled Refusal) → SettleAnswers (on_table t (λ z. f z (parts_of x))) x r
        → SettleAnswers (on_table into (λ z. f z (parts_of y))) y q
        → SameSettled (before.first ∷ before.others) i r q
    tables-alike r q p v = alike m i x y same-on
        (λ d z. long before.first before.others before.holds.well x d (sym on-first ∙ z))
        (λ d z. long after.first after.others after.holds.well y d (sym on-second ∙ z)) r q p v

  -- the same verdict, count, resets and trace; and 22 and 24 likewise
  pub settle-is-alike : (budget : ℕ) (old new late : List ℕ) (r q : Result Settled Refusal) → SettleCall t x budget old new r
      → SettleCall into y budget old late q
      → SameSettled (before.first ∷ before.others) i r q × (late ≡ new)
  settle-is-alike budget old new late r q p v =
      let f : Model → List ℕ → Answer (Settling (List ℕ)) = λ z s. settle_of z s budget (length old) in
      let long : Long f = λ c cs w z d e. settled-length c cs w z budget (length old) d e in
      let s = parts_of x in
      let u = paired_at m i s in
      let stays = the-settling-stays before.first before.others before.holds.well before.definition before.joinable i after.first
      after.others into-n before.confluent s before.reached paired budget (length old) (f m s) (f n u)
      ((settle-model-exactly before.first before.others before.holds.well s budget (length old) (f m s)).0 refl)
      ((settle-model-exactly after.first after.others after.holds.well u budget (length old) (f n u)).0 refl) in
      (tables-alike f long stays r q p.answer v.answer, v.trace ∙ traces-alike m i old (same-on f long stays) ∙ sym p.trace)

  -- by list: the same verdict, count and resets, or 23 at the same index
  pub settle-list-is-alike : (l : List ℕ) (r q : Result Settled Refusal) → SettleListCall t x l r → SettleListCall into y l q
      → SameSettled (before.first ∷ before.others) i r q
  settle-list-is-alike l r q p v =
      let f : Model → List ℕ → Answer (Settling (List ℕ)) = λ z s. settle_list_of z s l in
      let s = parts_of x in
      let u = paired_at m i s in
      let stays = the-listing-stays before.first before.others before.holds.well before.definition before.joinable i after.first
      after.others into-n before.confluent s before.reached paired l (f m s) (f n u)
      ((settle-list-model-exactly before.first before.others before.holds.well s l (f m s)).0 refl)
      ((settle-list-model-exactly after.first after.others after.holds.well u l (f n u)).0 refl) in
      tables-alike f (λ c cs w z d e. listed-length c cs w z l d e) stays r q p.answer v.answer

-- ---- "Merging (first, second), third and first, (second, third)": t is merged at i to n and n at i to p, or t at i+1 to k and k at i to q
pub merged-either-way : (t : List ℕ) (i : ℕ) (was₁ n was₂ p was₃ k was₄ q : List ℕ) → Merging t i was₁ (Ok tt) n → Merging n i was₂ (Ok tt) p
    → Merging t (suc i) was₃ (Ok tt) k → Merging k i was₄ (Ok tt) q → take image_words p ≡ take image_words q
merged-either-way t i was₁ n was₂ p was₃ k was₄ q a b d e =
    let x = merge-writes t i was₁ n a in
    let y = merge-writes n i was₂ p b in
    let z = merge-writes t (suc i) was₃ k d in
    let v = merge-writes k i was₄ q e in
    let m = x.before in
    let one : y.after ≡ v.after =
    either_way m i x.after y.after z.after v.after x.holds.well x.conforming x.joinable x.merged-into
    (held-into n i was₂ p b x.after y.after x.holds-again y.holds-again)
    (held-into t (suc i) was₃ k d m z.after x.holds z.holds-again)
    (held-into k i was₄ q e z.after v.after z.holds-again v.holds-again) in
    y.holds-again.front ∙ ap image_of one ∙ sym v.holds-again.front

-- ---- of one answer there is one that is the same merged
pub one-settled-again : (m : Model) (i : ℕ) (r q p : Result Settled Refusal) → SameSettled m i r q → SameSettled m i r p → SameAgain q p
one-settled-again m i (Ok r) (Ok q) (Ok p) u v = (u.verdict ∙ sym v.verdict, u.count ∙ sym v.count, u.resets ∙ sym v.resets, u.end ∙ sym v.end)
one-settled-again m i (Ok r) (Ok q) (Err f) u v = absurd v
one-settled-again m i (Ok r) (Err f) p u v = absurd u
one-settled-again m i (Err f) q p u v = subst (λ (z : Result Settled Refusal). SameAgain z p) (sym u) v
