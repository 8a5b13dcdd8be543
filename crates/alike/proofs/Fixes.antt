-- What is the same fixes it: of one answer there is one that is the same merged.
use mathlib.Core.Path.{◌≡◌, sym, ◌∙◌, ap, subst}
use mathlib.Core.List.{List}
use Prim.Native.Nat.{ℕ}
use native.Mathlib.Omega.{arith}
use Rattle.answer.specs.Told.{Answer, answered}
use Rattle.model.specs.Model.{Model}
use Rattle.iosa.specs.Orders.{Settling}
use Rattle.alike.specs.Alike.{SameSettling, SameAnswer, both_settle, both-refuse}

module _ (m : Model) (i : ℕ) where
  one-settling : (d e f : Settling (List ℕ)) → SameSettling m i d e → SameSettling m i d f → e ≡ f
  one-settling d e f p q =
      let verdict = p.verdict ∙ sym q.verdict in
      let count = p.count ∙ sym q.count in
      let resets = p.resets ∙ sym q.resets in
      let trace = p.trace ∙ sym q.trace in
      let end = p.end ∙ sym q.end in
      λ k. record { stable = verdict k; steps = count k; resets = resets k; trace = trace k; state = end k }

  fixed : {a b a' b' : Answer (Settling (List ℕ))} → SameAnswer m i a b → SameAnswer m i a' b' → a ≡ a' → b ≡ b'
  fixed (both_settle {d = d} {e = e} p) (both_settle {d = d'} {e = f} q) z =
      let y : d ≡ d' = cc in ap answered (one-settling d e f p (subst (λ x. SameSettling m i x f) (sym y) q))
  fixed (both_settle p) both-refuse z = absurd (let y : ◌≡◌ {A = ℕ} 0 1 = cc in omega arith)
  fixed both-refuse (both_settle q) z = absurd (let y : ◌≡◌ {A = ℕ} 0 1 = cc in omega arith)
  fixed both-refuse both-refuse z = z

  pub one-answer-again : (a b b' : Answer (Settling (List ℕ))) → SameAnswer m i a b → SameAnswer m i a b' → b ≡ b'
  one-answer-again a b b' p q = fixed p q (λ k. a)
