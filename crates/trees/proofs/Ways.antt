-- (i): the sets closed step by step hold exactly what is reached by edges; so the test finds a cycle exactly where there is one.
use mathlib.Core.Path.{◌≡◌, refl, sym, ◌∙◌, ap, subst}
use mathlib.Core.Logic.{◌↔◌, ◌⊎◌, inl, inr, ⊎_elim}
use mathlib.Core.Bool.{Bool, true, false, true≢false, cond}
use mathlib.Core.List.Memᴰ.{head as here}
use mathlib.Core.List.Memᴰ.{tail as there}
use mathlib.Core.List.{List, [], ◌∷◌, map, Memᴰ as In}
use Prim.Native.Nat.{ℕ, zero, suc, ◌+◌, ◌≤◌, ◌<◌}
use native.Mathlib.Omega.{arith}
use native.Mathlib.Decide.{ℕ_discrete}
use lib.ListN.{length, get_or}
use Rattle.laws.specs.Sets.{has, ◌∪◌, ◌∈◌}
use Rattle.laws.specs.Search.{any}
use Rattle.laws.specs.Fold.{tab}
use Rattle.laws.proofs.SetLaws.{in-or, or-in-l, or-in-r}
use Rattle.laws.proofs.SearchLaws.{any-true, any_false}
use Rattle.laws.proofs.FoldLaws.{tab-at}
use Rattle.answer.specs.Limits.{max_elements}
use Rattle.trees.specs.Tree.{Element, Tree, among}
use Rattle.trees.specs.TreeText.{numbers_of}
use Rattle.trees.specs.Conditions.{Edge, Chain, one, more, Acyclic, ins_of, edges_from, edges_of, by_way, closed_below, cyclic}
use Rattle.trees.specs.TreeFaults.{Ascending, InRange}
use Rattle.trees.proofs.Modules.{in-those, those-in}
use Rattle.trees.proofs.Lookup.{edge_test}

-- by edges, by way of numbers below n only
pub data Way (E : ℕ → ℕ → Type 0) (n : ℕ) : ℕ → ℕ → Type 0 where
  edge : {v w : ℕ} → E v w → Way E n v w
  join : {v k w : ℕ} → k < n → Way E n v k → Way E n k w → Way E n v w

module _ (E : ℕ → ℕ → Type 0) (n : ℕ) where
  wider : {v w : ℕ} → Way E n v w → Way E (suc n) v w
  wider (edge e) = edge e
  wider (join {k = k} h p q) = join {k = k} (omega arith) (wider p) (wider q)

  abbrev Either : ℕ → ℕ → Type 0
  Either v w = Way E n v w ⊎ (Way E n v n × Way E n n w)

  to-n : {v : ℕ} → Either v n → Way E n v n
  to-n (inl p) = p
  to-n (inr p) = p.0

  from-n : {w : ℕ} → Either n w → Way E n n w
  from-n (inl p) = p
  from-n (inr p) = p.1

  by : {v k w : ℕ} → k < n → Either v k → Either k w → Either v w
  by h (inl p) (inl q) = inl (join h p q)
  by h (inl p) (inr q) = inr (join h p q.0, q.1)
  by h (inr p) (inl q) = inr (p.0, join h p.1 q)
  by h (inr p) (inr q) = inr (p.0, q.1)

  -- a way by numbers up to n goes by n once, or not at all
  split : {v w : ℕ} → Way E (suc n) v w → Either v w
  split (edge e) = inl (edge e)
  split {v} {w} (join {k = k} h p q) = go (ℕ_discrete k n) (split p) (split q)
    where
      go : Dec (k ≡ n) → Either v k → Either k w → Either v w
      go (yes e) a b = inr (to-n (subst (Either v) e a), from-n (subst (λ x. Either x w) e b))
      go (no e) a b = by (omega arith) a b

map-length : (f : ℕ → ℕ) (l : List ℕ) → length (map f l) ≡ length l
map-length f [] = refl
map-length f (x ∷ xs) = ap suc (map-length f xs)

map_at : (f : ℕ → ℕ) (l : List ℕ) (v : ℕ) → v < length l → get_or (map f l) v 0 ≡ f (get_or l v 0)
map_at f [] v h = absurd (omega arith)
map_at f (x ∷ xs) zero h = refl
map_at f (x ∷ xs) (suc v) h = map_at f xs v (omega arith)

tab-length : (f : ℕ → ℕ) (k n : ℕ) → length (tab f k n) ≡ n
tab-length f k zero = refl
tab-length f k (suc n) = ap suc (tab-length f (suc k) n)

closed-length : (k : ℕ) (rows : List ℕ) → length (closed_below k rows) ≡ length rows
unfolding closed_below by_way
closed-length zero rows = refl
closed-length (suc k) rows = map-length _ (closed_below k rows) ∙ closed-length k rows

-- a member of a set, or of another where the first has k
in-cond : (s r k w : ℕ) → w ∈ cond (has s k) (s ∪ r) s → (w ∈ s) ⊎ ((k ∈ s) × (w ∈ r))
in-cond s r k w h = go (has s k) refl h
  where
    go : (b : Bool) → has s k ≡ b → w ∈ cond b (s ∪ r) s → (w ∈ s) ⊎ ((k ∈ s) × (w ∈ r))
    go false q h = inl h
    go true q h = ⊎_elim (λ x. inl x) (λ x. inr (q, x)) (in-or s r w h)

cond-left : (s r k w : ℕ) → w ∈ s → w ∈ cond (has s k) (s ∪ r) s
cond-left s r k w h = go (has s k)
  where
    go : (b : Bool) → w ∈ cond b (s ∪ r) s
    go true = or-in-l s r w h
    go false = h

cond-right : (s r k w : ℕ) → k ∈ s → w ∈ r → w ∈ cond (has s k) (s ∪ r) s
cond-right s r k w q h = rw q (or-in-r s r w h)

module _ (rows : List ℕ) where
  abbrev E : ℕ → ℕ → Type 0
  E v w = w ∈ get_or rows v 0

  closed_is : (k v w : ℕ) → k ≤ length rows → v < length rows → (w ∈ get_or (closed_below k rows) v 0) ↔ Way E k v w
  unfolding closed_below by_way
  closed_is zero v w h l = (edge, back)
    where
      back : {v w : ℕ} → Way E zero v w → w ∈ get_or rows v 0
      back (edge e) = e
      back (join h p q) = absurd (omega arith)
  closed_is (suc k) v w h l = (
    λ m. ⊎_elim
        (λ x. wider E k ((closed_is k v w (omega arith) l).0 x))
        (λ x. join {k = k} (omega arith) (wider E k ((closed_is k v k (omega arith) l).0 x.0))
        (wider E k ((closed_is k k w (omega arith) (omega arith)).0 x.1)))
        (in-cond (s v) (s k) k w (subst (λ x. w ∈ x) step m)),
    λ p. subst (λ x. w ∈ x) (sym step) (⊎_elim
        (λ x. cond-left (s v) (s k) k w ((closed_is k v w (omega arith) l).1 x))
        (λ x. cond-right (s v) (s k) k w ((closed_is k v k (omega arith) l).1 x.0) ((closed_is k k w (omega arith) (omega arith)).1 x.1))
        (split E k p)),
  )
    where
      s : ℕ → ℕ
      s x = get_or (closed_below k rows) x 0

      step : get_or (by_way k (closed_below k rows)) v 0 ≡ cond (has (s v) k) (s v ∪ s k) (s v)
      step = map_at (λ x. cond (has x k) (x ∪ s k) x) (closed_below k rows) v (omega (arith, closed-length k rows, l))

-- ---- of a tree
pub chain-on : {t : Tree} {v w x : ℕ} → Chain t v w → Chain t w x → Chain t v x
chain-on (one e) c = more e c
chain-on (more e d) c = more e (chain-on d c)

module _ {low : ℕ} (t : Tree) (a : Ascending low t) (r : (e : Element) → In e t → InRange e) where
  rows-length : length (edges_of t) ≡ max_elements
  unfolding edges_of
  rows-length = tab-length (edges_from t) 0 max_elements

  pub edge-below : {v w : ℕ} → Edge t v w → (v < max_elements) × (w < max_elements)
  edge-below {v} {w} e = (
    r e.element e.line v (in-later e.input),
    subst (λ x. x < max_elements) e.number (r e.element e.line e.element.number in-first),
  )
    where
      in-later : In v e.element.ins → In v (numbers_of e.element)
      in-later m = there m

      in-first : In e.element.number (numbers_of e.element)
      in-first = here refl

  row-at : (v : ℕ) → v < max_elements → get_or (edges_of t) v 0 ≡ edges_from t v
  unfolding edges_of
  row-at v h = tab-at (edges_from t) 0 0 max_elements v h ∙ ap (edges_from t) (let z : 0 + v ≡ v = omega arith in z)

  pub edges-from : (v w : ℕ) → (w ∈ edges_from t v) ↔ Edge t v w
  unfolding edges_from
  edges-from v w = (
    λ m. (edge_test t a v w).0 (in-those (λ w. among v (ins_of t w)) max_elements w m).1,
    λ e. those-in (λ w. among v (ins_of t w)) max_elements w (edge-below e).1 ((edge_test t a v w).1 e),
  )

  way-chain : {v w : ℕ} → v < max_elements → Way (E (edges_of t)) max_elements v w → Chain t v w
  way-chain {v} {w} h (edge m) = one ((edges-from v w).0 (subst (λ s. w ∈ s) (row-at v h) m))
  way-chain h (join {k = k} l p q) = chain-on (way-chain h p) (way-chain l q)

  edge-way : {v w : ℕ} → Edge t v w → Way (E (edges_of t)) max_elements v w
  edge-way {v} {w} e = edge (subst (λ s. w ∈ s) (sym (row-at v (edge-below e).0)) ((edges-from v w).1 e))

  chain-way : {v w : ℕ} → Chain t v w → Way (E (edges_of t)) max_elements v w
  chain-way (one e) = edge-way e
  chain-way (more {w = k} e c) = join {k = k} (edge-below e).1 (edge-way e) (chain-way c)

  pub chain-below : {v w : ℕ} → Chain t v w → v < max_elements
  chain-below (one e) = (edge-below e).0
  chain-below (more e c) = (edge-below e).0

  -- (i)
  pub acyclic-exactly : (cyclic t ≡ false) ↔ Acyclic t
  unfolding cyclic
  acyclic-exactly = (
    λ f. record {
      none-back = λ v c.
          let h = chain-below c in
          true≢false (sym ((closed v h).1 (chain-way c)) ∙ any_false (λ v. has (get_or (closed_below max_elements (edges_of t)) v 0) v) max_elements f v h);
    },
    λ k. go k (any (λ v. has (get_or (closed_below max_elements (edges_of t)) v 0) v) max_elements) refl,
  )
    where
      closed : (v : ℕ) → v < max_elements → (v ∈ get_or (closed_below max_elements (edges_of t)) v 0) ↔ Way (E (edges_of t)) max_elements v v
      closed v h = closed_is (edges_of t) max_elements v v (omega (arith, rows-length)) (omega (arith, rows-length, h))

      go : Acyclic t → (b : Bool) → any (λ v. has (get_or (closed_below max_elements (edges_of t)) v 0) v) max_elements ≡ b
          → any (λ v. has (get_or (closed_below max_elements (edges_of t)) v 0) v) max_elements ≡ false
      go k false q = q
      go k true q =
          let p = any-true (λ v. has (get_or (closed_below max_elements (edges_of t)) v 0) v) max_elements q in
          absurd (k.none-back p.0 (way-chain p.1 ((closed p.0 p.1).0 p.2)))
