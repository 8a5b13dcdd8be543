-- (i): the inputs of each line, stored by its number, are the edges turned round; closed under going on they lead back exactly where the tree has a cycle.
use mathlib.Core.Path.{◌≡◌, refl, sym, ◌∙◌, ap, subst}
use mathlib.Core.Logic.{◌⊎◌, inl, inr, ⊎_elim}
use mathlib.Core.Bool.{Bool, true, false, true≢false}
use mathlib.Core.List.Memᴰ.{head as here}
use mathlib.Core.List.Memᴰ.{not-nil as in-none}
use mathlib.Core.List.Memᴰ.{tail as there}
use mathlib.Core.List.{List, [], ◌∷◌, Memᴰ as In}
use Prim.Native.Nat.{ℕ, ◌<◌}
use native.Mathlib.Omega.{arith}
use native.Mathlib.Decide.{ℕ_discrete}
use lib.ListN.{length, get_or, set, replicate, length-set, length-replicate, get_or-replicate}
use lib.Seq.{get_or-set_same, get_or-set_other}
use Rattle.laws.specs.Sets.{has, ◌∈◌}
use Rattle.laws.specs.Search.{any}
use Rattle.laws.proofs.SetLaws.{none_in}
use Rattle.laws.proofs.SearchLaws.{any-true, any_false}
use Rattle.sets.specs.Members.{word_bits}
use Rattle.marks.specs.Ways.{Way, edge, join}
use Rattle.marks.specs.Marks.{rows_of_marks, ClosedSets}
use Rattle.trees.specs.Tree.{Element as TheElement, Tree}
use Rattle.trees.specs.Conditions.{Edge, Chain, one, more, Acyclic, cyclic}
use Rattle.trees.specs.TreeFaults.{ElementFits, InRange, Ascending, line}
use Rattle.trees.proofs.Ways.{chain-on, edge-below, chain-below, acyclic-exactly}
use Rattle.treelines.specs.Elements.{element_is}
use Rattle.treetests.specs.Gathering.{line_sets, InputRows}
use Rattle.treetests.proofs.InputLaws.{line-inputs}
use Rattle.treetests.proofs.ConditionLaws.{same_test}

-- ---- the inputs of each line in the place of its number
abbrev pub Ins : TheElement → ℕ
Ins e = (line_sets (element_is e)).all

unfoldable pub rows_all : List ℕ → Tree → List ℕ
rows_all rows [] = rows
rows_all rows (e ∷ es) = rows_all (set rows e.number (Ins e)) es

rows-length : (t : Tree) (rows : List ℕ) → length (rows_all rows t) ≡ length rows
unfolding rows_all
rows-length [] rows = refl
rows-length (e ∷ es) rows = rows-length es (set rows e.number (Ins e)) ∙ length-set rows e.number (Ins e)

-- a line stores nothing below its number
rows-kept : {low : ℕ} (t : Tree) → Ascending low t → (rows : List ℕ) (w : ℕ) → w < low → get_or (rows_all rows t) w 0 ≡ get_or rows w 0
unfolding rows_all
rows-kept [] up rows w h = refl
rows-kept (e ∷ es) (line l up) rows w h =
    rows-kept es up (set rows e.number (Ins e)) w (omega (arith, l, h)) ∙ get_or-set_other rows e.number w (Ins e) 0 (λ z. omega (arith, z, l, h))

edge-there : {e : TheElement} {t : Tree} {v w : ℕ} → Edge t v w → Edge (e ∷ t) v w
edge-there d = record { element = d.element; line = there d.line; number = d.number; input = d.input }

rows-edge : (t : Tree) → ((e : TheElement) → In e t → ElementFits e) → ((e : TheElement) → In e t → InRange e) → (rows : List ℕ) → length rows ≡ word_bits
    → (w v : ℕ) → v ∈ get_or (rows_all rows t) w 0 → (v ∈ get_or rows w 0) ⊎ Edge t v w
unfolding rows_all
rows-edge [] f r rows n w v h = inl h
rows-edge (e ∷ es) f r rows n w v h =
    ⊎_elim (λ m. stored (ℕ_discrete w e.number) m) (λ d. inr (edge-there d))
    (rows-edge es (λ d m. f d (there m)) (λ d m. r d (there m)) (set rows e.number (Ins e)) (length-set rows e.number (Ins e) ∙ n) w v h)
  where
    below : e.number < length rows
    below = let l = r e (here refl) e.number (here refl) in omega (arith, l, n)

    stored : Dec (w ≡ e.number) → v ∈ get_or (set rows e.number (Ins e)) w 0 → (v ∈ get_or rows w 0) ⊎ Edge (e ∷ es) v w
    stored (yes q) m =
        let i = subst (λ s. v ∈ s) (ap (λ x. get_or (set rows e.number (Ins e)) x 0) q ∙ get_or-set_same rows e.number (Ins e) 0 below) m in
        inr (record { element = e; line = here refl; number = sym q; input = (line-inputs e (f e (here refl)) v).0 i })
    stored (no q) m = inl (subst (λ s. v ∈ s) (get_or-set_other rows e.number w (Ins e) 0 q) m)

edge-rows : {low : ℕ} (t : Tree) → Ascending low t → ((e : TheElement) → In e t → ElementFits e) → ((e : TheElement) → In e t → InRange e) → (rows : List ℕ)
    → length rows ≡ word_bits → (d : TheElement) → In d t → (v : ℕ) → In v d.ins → v ∈ get_or (rows_all rows t) d.number 0
unfolding rows_all
edge-rows [] up f r rows n d m v i = absurd (in-none m)
edge-rows (e ∷ es) (line l up) f r rows n d (here q) v i =
    let below : e.number < length rows = let b = r e (here refl) e.number (here refl) in omega (arith, b, n) in
    let kept = rows-kept es up (set rows e.number (Ins e)) e.number (omega arith) ∙ get_or-set_same rows e.number (Ins e) 0 below in
    let own = (line-inputs e (f e (here refl)) v).1 (subst (λ (x : TheElement). In v x.ins) q i) in
    subst (λ (x : TheElement). v ∈ get_or (rows_all (set rows e.number (Ins e)) es) x.number 0) (sym q) (subst (λ s. v ∈ s) (sym kept) own)
edge-rows (e ∷ es) (line l up) f r rows n d (there m) v i =
    edge-rows es up (λ d m. f d (there m)) (λ d m. r d (there m)) (set rows e.number (Ins e)) (length-set rows e.number (Ins e) ∙ n) d m v i

-- nothing stored
unfoldable pub no_rows : List ℕ
no_rows = replicate word_bits 0

no-rows-length : length no_rows ≡ word_bits
unfolding no_rows
no-rows-length = length-replicate {A = ℕ} word_bits 0

no-rows-at : (w : ℕ) → w < word_bits → get_or no_rows w 0 ≡ 0
unfolding no_rows
no-rows-at w h = get_or-replicate {A = ℕ} word_bits w 0 0 h

pub input-rows : {low : ℕ} (t : Tree) → Ascending low t → ((e : TheElement) → In e t → ElementFits e) → ((e : TheElement) → In e t → InRange e)
    → InputRows t (rows_all no_rows t)
input-rows t up f r = record {
  places = rows-length t no_rows ∙ no-rows-length;
  edges = λ w v h. (
    λ m. ⊎_elim (λ z. absurd (none_in v (subst (λ s. v ∈ s) (no-rows-at w h) z))) (λ d. d) (rows-edge t f r no_rows no-rows-length w v m),
    λ d. subst (λ x. v ∈ get_or (rows_all no_rows t) x 0) d.number (edge-rows t up f r no_rows no-rows-length d.element d.line v d.input),
  );
}

-- ---- going on
module _ {low : ℕ} (t : Tree) (a : Ascending low t) (r : (e : TheElement) → In e t → InRange e) (rows : List ℕ) (rs : InputRows t rows) where
  abbrev Fed : ℕ → ℕ → Type 0
  Fed x y = y ∈ get_or rows x 0

  way-chain : {x y : ℕ} → x < rows_of_marks → Way Fed rows_of_marks x y → Chain t y x
  way-chain {x} {y} h (edge m) = one ((rs.edges x y h).0 m)
  way-chain h (join l p q) = chain-on (way-chain l q) (way-chain h p)

  fed : {v w : ℕ} → Edge t v w → Way Fed rows_of_marks w v
  fed {v} {w} e = edge ((rs.edges w v (edge-below t a r e).1).1 e)

  chain-way : {v w : ℕ} → Chain t v w → Way Fed rows_of_marks w v
  chain-way (one e) = fed e
  chain-way (more {w = k} e c) = join {k = k} (edge-below t a r e).1 (chain-way c) (fed e)

  pub cyclic-same : (closed : List ℕ) → ClosedSets rows closed → any (λ v. has (get_or closed v 0) v) rows_of_marks ≡ cyclic t
  cyclic-same closed k = same_test (any own rows_of_marks) (cyclic t) (to, back) (acyclic-exactly t a r)
    where
      own : ℕ → Bool
      own v = has (get_or closed v 0) v

      to : any own rows_of_marks ≡ false → Acyclic t
      to h = record { none-back = λ v c. let l = chain-below t a r c in true≢false (sym ((k.ways v v l l).1 (chain-way c)) ∙ any_false own rows_of_marks h v l) }

      back : Acyclic t → any own rows_of_marks ≡ false
      back n = go (any own rows_of_marks) refl
        where
          go : (b : Bool) → any own rows_of_marks ≡ b → any own rows_of_marks ≡ false
          go false q = q
          go true q = let p = any-true own rows_of_marks q in absurd (n.none-back p.0 (way-chain p.1 ((k.ways p.0 p.0 p.1 p.1).0 p.2)))
