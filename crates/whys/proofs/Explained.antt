-- What is printed, exactly: `explanation_of` is the one explanation of a text.
use mathlib.Core.Path.{◌≡◌, refl, sym, ◌∙◌, ap, ap₂, subst}
use mathlib.Core.Logic.{◌↔◌, ◌⊎◌, inl, inr}
use mathlib.Core.Option.{Option, none, some}
use mathlib.Core.List.{List, [], ◌∷◌}
use Prim.Native.Nat.{ℕ, ◌<◌}
use native.Mathlib.Omega.{arith}
use lib.ListN.{length}
use Rattle.answer.specs.Told.{Told, tell, Answer, answered, refused}
use Rattle.model.specs.Model.{Comp, Model, comp_at}
use Rattle.model.specs.WellFormed.{WellFormed}
use Rattle.iosa.specs.Automaton.{Joinable}
use Rattle.iosa.specs.Thesis.{AllDefinition41}
use Rattle.iosa.specs.Faults.{Broken18, Clash, clash, First}
use Rattle.model.specs.Reading.{read_of}
use Rattle.answering.specs.Answers.{ReadAnswer, is-text}
use Rattle.iosa.specs.Checks.{accept_of, clash_among}
use Rattle.iosa.proofs.Acceptance.Accepted.{accepted-exactly}
use Rattle.iosa.proofs.Acceptance.ConfluentExactly.{accepted-single}
use Rattle.iosa.proofs.Acceptance.Rows.{from-below}
use Rattle.answering.proofs.Answers.Models.{accepted-decided, confluent-decided}
use Rattle.answering.proofs.Answers.Texts.{read-text-exactly}
use Rattle.whys.specs.Way.{NotAfter, sooner, alike, TheWay, way_of, Order, InOrder, order_of}
use Rattle.whys.specs.Explanation.{Explains, unread, unaccepted, confluent, clashes, clash_lines, explain_clash, explain_at}
use Rattle.whys.specs.Explanation.{explain_meeting, explain_accepted, explain_model, explain_read, explanation_of}
use Rattle.whys.proofs.Reaching.{the-way, reached-by-a-way}
use Rattle.whys.proofs.Orders.{order-exactly, order-there, clash-shown}

-- ---- there is one such path
not-after-parts : {i j : ℕ} {l k : List ℕ} → NotAfter (i ∷ l) (j ∷ k) → (i < j) ⊎ ((i ≡ j) × NotAfter l k)
not-after-parts (sooner h) = inl h
not-after-parts (alike q) = inr (refl, q)

one_list : (l k : List ℕ) → length l ≡ length k → NotAfter l k → NotAfter k l → l ≡ k
one_list [] [] e p q = refl
one_list [] (j ∷ k) e p q = absurd (omega (arith, e))
one_list (i ∷ l) [] e p q = absurd (omega (arith, e))
one_list (i ∷ l) (j ∷ k) e p q = go (not-after-parts p) (not-after-parts q) (λ x y. one_list l k (omega (arith, e)) x y)
  where
    go : (i < j) ⊎ ((i ≡ j) × NotAfter l k) → (j < i) ⊎ ((j ≡ i) × NotAfter k l) → (NotAfter l k → NotAfter k l → l ≡ k) → i ∷ l ≡ j ∷ k
    go (inl h) (inl h') f = absurd (omega arith)
    go (inl h) (inr y) f = absurd (omega (arith, y.0))
    go (inr x) (inl h) f = absurd (omega (arith, x.0))
    go (inr x) (inr y) f = ap₂ {C = List ℕ} (λ z zs. z ∷ zs) x.0 (f x.1 y.1)

pub one_way : (c : Comp) (s t : ℕ) (l k : List ℕ) → TheWay c s t l → TheWay c s t k → l ≡ k
one_way c s t l k p q =
    let e : length l ≡ length k = omega (arith, p.shortest k q.real, q.shortest l p.real) in
    one_list l k e (p.first k q.real (sym e)) (q.first l p.real e)

-- ---- a clash
module _ (m : Model) (w : WellFormed m) (ok : accept_of m ≡ none) (i s a b : ℕ) (h : i < length m) (k : Broken18 (comp_at m i) s a b) where
  abbrev c : Comp
  c = comp_at m i

  -- the path that is printed, and its length
  way-there : TheWay c c.start s (way_of c s c.start) × (length (way_of c s c.start) < c.states)
  way-there =
      let v = reached-by-a-way c (w.each i h) k.reached in
      the-way c (w.each i h) s (from-below c (w.each i h) k.row) c.start (w.each i h).start v.0 v.1

  explained : (x y : Order) → order_of c s a b ≡ some x → order_of c s b a ≡ some y
      → explain_clash c i s a b ≡ clash_lines c i s a b (way_of c s c.start) x y
  unfolding explain_clash
  explained x y e d = rw (e, d)

  clash-printed : (l : List ℕ) (x y : Order) → TheWay c c.start s l → InOrder c s a b x → InOrder c s b a y
      → explain_clash c i s a b ≡ clash_lines c i s a b l x y
  clash-printed l x y p f g =
      let o = accepted-single m w ok i h in
      explained x y ((order-exactly c o s a b k.lower k.higher x).1 f) ((order-exactly c o s b a k.higher k.lower y).1 g)
      ∙ ap (λ z. clash_lines c i s a b z x y) (one_way c c.start s (way_of c s c.start) l way-there.0 p)

  clash-explained : {text : List ℕ} → ReadAnswer text (answered m) → AllDefinition41 m → Joinable m → First (Clash m) (tell 18 (i ∷ s ∷ a ∷ b ∷ []))
      → Explains text (explain_clash c i s a b)
  clash-explained r d j f =
      let o = accepted-single m w ok i h in
      let x = order-there c o s a b k.lower k.row in
      let y = order-there c o s b a k.higher k.other in
      let p = (order-exactly c o s a b k.lower k.higher x.0).0 x.1 in
      let q = (order-exactly c o s b a k.higher k.lower y.0).0 y.1 in
      subst (Explains _) (sym (explained x.0 y.0 x.1 y.1))
      (clashes r d j f way-there.0 p q (clash-shown c o s a b k x.0 y.0 p q))

-- 18's place tells the clash
record Placed (m : Model) (t : Told) : Type 0 where
  i : ℕ
  s : ℕ
  a : ℕ
  b : ℕ
  inside : i < length m
  broken : Broken18 (comp_at m i) s a b
  told : t ≡ tell 18 (i ∷ s ∷ a ∷ b ∷ [])

placed : (m : Model) (q : List ℕ) (t : Told) → Clash m q t → Placed m t
placed m q t (clash {i} {s} {a} {b} h k) = record { i = i; s = s; a = a; b = b; inside = h; broken = k; told = refl }

-- ---- a model
module _ (text : List ℕ) (m : Model) (w : WellFormed m) (r : ReadAnswer text (answered m)) where
  meeting : accept_of m ≡ none → (o : Option Told) → clash_among 0 m ≡ o → Explains text (explain_meeting m o)
  meeting ok none e =
      let k = (accepted-exactly m w).0 ok in
      confluent r ((accepted-decided m w).fine.0 ok).0 k.1 ((confluent-decided m w k).fine.0 e)
  meeting ok (some t) e =
      let k = (accepted-exactly m w).0 ok in
      let f = ((confluent-decided m w k).told t).0 e in
      let p = placed m f.rank t f.here in
      subst (λ u. Explains text (explain_at m u.place)) (sym p.told)
      (clash-explained m w ok p.i p.s p.a p.b p.inside p.broken r ((accepted-decided m w).fine.0 ok).0 k.1
      (subst (First (Clash m)) p.told f))

  model-explained : Explains text (explain_model m)
  unfolding explain_model
  model-explained = go (accept_of m) refl
    where
      go : (o : Option Told) → accept_of m ≡ o → Explains text (explain_accepted m o)
      go none e = meeting e (clash_among 0 m) refl
      go (some t) e = unaccepted r (((accepted-decided m w).told t).0 e)

-- ---- both ways
text-explained : (text : List ℕ) → Explains text (explanation_of text)
unfolding explanation_of
text-explained text = go (read_of text) refl
  where
    go : (o : Answer Model) → read_of text ≡ o → Explains text (explain_read o)
    go (refused t) e = unread ((read-text-exactly text (refused t)).0 e)
    go (answered m) e = let r = (read-text-exactly text (answered m)).0 e in model-explained text m (well r) r
      where
        well : ReadAnswer text (answered m) → WellFormed m
        well (is-text w e) = w

read-well : (text : List ℕ) (m : Model) → ReadAnswer text (answered m) → WellFormed m
read-well text m (is-text w e) = w

explained-is : (text out : List ℕ) → Explains text out → explanation_of text ≡ out
unfolding explanation_of explain_model
explained-is text out (unread {t} r) = ap explain_read ((read-text-exactly text (refused t)).1 r)
explained-is text out (unaccepted {m} {t} r f) =
    ap explain_read ((read-text-exactly text (answered m)).1 r) ∙ ap (explain_accepted m) (((accepted-decided m (read-well text m r)).told t).1 f)
explained-is text out (confluent {m} r d j al) =
    let w = read-well text m r in
    let ok = (accepted-decided m w).fine.1 (d, j) in
    ap explain_read ((read-text-exactly text (answered m)).1 r) ∙ ap (explain_accepted m) ok
    ∙ ap (explain_meeting m) ((confluent-decided m w ((accepted-exactly m w).0 ok)).fine.1 al)
explained-is text out (clashes {m} {i} {s} {a} {b} {l} {x} {y} r d j f v p q n) =
    let w = read-well text m r in
    let ok = (accepted-decided m w).fine.1 (d, j) in
    ap explain_read ((read-text-exactly text (answered m)).1 r) ∙ ap (explain_accepted m) ok
    ∙ ap (explain_meeting m) (((confluent-decided m w ((accepted-exactly m w).0 ok)).told (tell 18 (i ∷ s ∷ a ∷ b ∷ []))).1 f)
    ∙ here f.rank f.here
  where
    here : (z : List ℕ) → Clash m z (tell 18 (i ∷ s ∷ a ∷ b ∷ [])) → explain_clash (comp_at m i) i s a b ≡ clash_lines (comp_at m i) i s a b l x y
    here z (clash h k) =
        clash-printed m (read-well text m r) ((accepted-decided m (read-well text m r)).fine.1 (d, j)) i s a b h k l x y v p q

pub explained-exactly : (text out : List ℕ) → (explanation_of text ≡ out) ↔ Explains text out
explained-exactly text out = (λ e. subst (Explains text) e (text-explained text), explained-is text out)
