-- A line's lowest fault, in the second form, is what the tests of reading find first; a line with none is faultless.
use mathlib.Core.Path.{◌≡◌, refl, sym, ◌∙◌, ap, subst}
use mathlib.Core.Logic.{◌↔◌}
use mathlib.Core.Option.{Option, none, some, some_inj}
use mathlib.Core.Bool.{Bool, true, false, not, cond, true≢false}
use mathlib.Core.List.{List, [], ◌∷◌}
use Prim.Native.Nat.{ℕ, ◌<◌}
use native.Mathlib.Omega.{arith}
use lib.Dec.{ltb}
use borrow.Author.Tests.{ltb-true, lt-ltb, not-false}
use Rattle.laws.specs.Sets.{◌∈◌}
use Rattle.laws.specs.Lowest.{Lowest}
use Rattle.laws.specs.Search.{when, or_else, is_some}
use Rattle.laws.proofs.SearchLaws.{no-some, is-some, is_none}
use Rattle.laws.proofs.TestLaws.{or-false, not_so, not-exactly}
use Rattle.laws.proofs.SetLaws.{none_in}
use Rattle.answer.specs.Limits.{max_actions}
use Rattle.model.specs.Model.{Comp, acts}
use Rattle.model.specs.Text.{Kind}
use Rattle.model.specs.Reading.{Got, got, Entry, act-entry, row-entry, Progress, current, out_of_turn, out_of_range, lacks, out_of_order, too_many, fault_of}
use Rattle.model.specs.Faulty.{InTurn, InRange, Named, InOrder, Room}
use Rattle.model.proofs.Reading.Scans.{is-inj}
use Rattle.model.proofs.Reading.Tests.{turn-decided, range-decided, names-decided, order-decided, room-decided}
use Rattle.named.specs.NamedText.{Name, good_name, number_of, Line, form-line, name-line, act-line, row-line, plain-line, line}
use Rattle.named.specs.ReadNamed.{Progress₂, above, bad_name, without_acts, fault_named}
use Rattle.named.proofs.Scanned.{line-exact}
use Rattle.namedtheory.proofs.Lookup.{name-of}
use Rattle.namedfaults.specs.NamedFaults.{Known, InTurn₂, InRange₂, Named₂, InOrder₂, WellNamed, ActKnown, Room₂, Faultless₂, LineAt₂}
use Rattle.namedfaults.specs.NamedFaults.{LineFault₂, wrong-shape, out-of-turn, is_out_of_range, not_named, is_out_of_order, bad-name, not_known, is_too_many}

-- ---- seven tests of a line, of which the first that is true tells the number
abbrev pub chain : (a b c d e f g : Bool) → Option ℕ
chain a b c d e f g = or_else (when a 3) (or_else (when b 4) (or_else (when c 5) (or_else (when d 6) (or_else (when e 43) (or_else (when f 44) (when g 7))))))

pub record Tests (p : Progress₂) (l : Line) : Type 0 where
  pub turn : Bool
  pub range : Bool
  pub lack : Bool
  pub order : Bool
  pub badly : Bool
  pub unknown : Bool
  pub many : Bool
  pub turn_is : (turn ≡ false) ↔ InTurn₂ p l
  pub range-is : (range ≡ false) ↔ InRange₂ p l
  pub lack-is : (lack ≡ false) ↔ Named₂ p l
  pub order_is : (order ≡ false) ↔ InOrder₂ p l
  pub badly-is : (badly ≡ false) ↔ WellNamed p l
  pub unknown-is : (unknown ≡ false) ↔ ActKnown p l
  pub many_is : (many ≡ false) ↔ Room₂ p l
  -- 7 is not on a line with 43 or 44
  pub roomy : (badly ≡ true → Room₂ p l) × (unknown ≡ true → Room₂ p l)
  pub same : fault_named p l ≡ chain turn range lack order badly unknown many

never : (false ≡ false) ↔ Unit {0}
never = (λ h. tt, λ h. refl)

false-true : {P : Type 0} → false ≡ true → P
false-true e = absurd (true≢false (sym e))

join : {A B C : Type 0} → A ↔ B → B ↔ C → A ↔ C
join f g = (λ a. g.0 (f.0 a), λ c. f.1 (g.1 c))

-- ---- a line judged as an old one
fault-chain : (m : Progress) (e : Entry)
    → fault_of m e ≡ chain (out_of_turn m.last e) (out_of_range (current m) e) (lacks (current m) e) (out_of_order m.last e) false false (too_many m.comps e)
unfolding fault_of
fault-chain m e = refl

module _ (p : Progress₂) (l : Line) (m : Progress) (e : Entry) (same : fault_named p l ≡ fault_of m e) where
  judged : InTurn m.last e ↔ InTurn₂ p l → InRange (current m) e ↔ InRange₂ p l → Named (current m) e ↔ Named₂ p l → InOrder m.last e ↔ InOrder₂ p l
      → WellNamed p l → ActKnown p l → Room m.comps e ↔ Room₂ p l → Tests p l
  judged a b c d w k g = record {
    turn = out_of_turn m.last e;
    range = out_of_range (current m) e;
    lack = lacks (current m) e;
    order = out_of_order m.last e;
    badly = false;
    unknown = false;
    many = too_many m.comps e;
    turn_is = join (turn-decided m.last e) a;
    range-is = join (range-decided (current m) e) b;
    lack-is = join (names-decided (current m) e) c;
    order_is = join (order-decided m.last e) d;
    badly-is = (λ _. w, λ _. refl);
    unknown-is = (λ _. k, λ _. refl);
    many_is = join (room-decided m.comps e) g;
    roomy = (false-true, false-true);
    same = same ∙ fault-chain m e;
  }

itself : {A : Type 0} → A ↔ A
itself = (λ a. a, λ a. a)

-- whatever the action is, a line has its turn
act-turn : (k : Kind) (o : Option Entry) (a b : ℕ) → InTurn o (act-entry a k) → InTurn o (act-entry b k)
act-turn k none a b h = h
act-turn k (some d) a b h = h

row-turn : (s : ℕ) (g : Option ℕ) (r : List ℕ) (t : ℕ) (o : Option Entry) (a b : ℕ) → InTurn o (row-entry s g a r t) → InTurn o (row-entry s g b r t)
row-turn s g r t none a b h = h
row-turn s g r t (some d) a b h = h

-- ---- each kind of line
module _ (p : Progress₂) where
  form-tests : Tests p form-line
  unfolding fault_named
  form-tests = record {
    turn = true;
    range = false;
    lack = false;
    order = false;
    badly = false;
    unknown = false;
    many = false;
    turn_is = (λ e. true≢false e, λ x. absurd x);
    range-is = never;
    lack-is = never;
    order_is = never;
    badly-is = never;
    unknown-is = never;
    many_is = never;
    roomy = (false-true, false-true);
    same = refl;
  }

  last_none : (o : Option Entry) → (is_some o ≡ false) ↔ (o ≡ none)
  last_none o = (is_none o, λ e. ap is_some e)

  name-bad : (w : Name) → (bad_name p.sheet w ≡ false) ↔ ((good_name w ≡ true) × ¬ Known p.sheet w)
  name-bad w = (
    λ h.
        let q = or-false (not (good_name w)) (is_some (number_of p.sheet w)) h in
        (not-false (good_name w) q.0, λ k. no-some (is_none (number_of p.sheet w) q.1) k.1),
    λ h. rw h.0 (not_so (is_some (number_of p.sheet w)) (λ e. h.1 (is-some (number_of p.sheet w) e))),
  )

  last-when : (b : Bool) → when {A = ℕ} b 43 ≡ or_else (when b 43) (or_else (when false 44) (when false 7))
  last-when true = refl
  last-when false = refl

  name-tests : (n : ℕ) (w : Name) → Tests p (name-line n w)
  unfolding fault_named
  name-tests n w = record {
    turn = is_some p.model.last;
    range = not (ltb n max_actions);
    lack = false;
    order = not (above p.sheet n);
    badly = bad_name p.sheet w;
    unknown = false;
    many = false;
    turn_is = last_none p.model.last;
    range-is = not-exactly (ltb n max_actions) (ltb-true n max_actions, lt-ltb n max_actions);
    lack-is = never;
    order_is = not-exactly (above p.sheet n) itself;
    badly-is = name-bad w;
    unknown-is = never;
    many_is = never;
    roomy = (λ _. tt, λ _. tt);
    same =
        ap (λ x. or_else (when (is_some p.model.last) 3) (or_else (when (not (ltb n max_actions)) 4) (or_else (when (not (above p.sheet n)) 6) x)))
        (last-when (bad_name p.sheet w));
  }

  -- ---- an `act` line
  module _ (w : Name) (k : Kind) where
    act-known : (a : ℕ) → number_of p.sheet w ≡ some a → fault_named p (act-line w k) ≡ fault_of p.model (act-entry a k)
    unfolding fault_named
    act-known a e = rw (e, fault_named)

    act-unknown : number_of p.sheet w ≡ none → fault_named p (act-line w k) ≡ cond (out_of_turn p.model.last (act-entry 0 k)) (some 3) (some 44)
    unfolding fault_named
    act-unknown e = rw (e, fault_named)

    either : (b : Bool) → cond {A = Option ℕ} b (some 3) (some 44) ≡ chain b false false false false true false
    either true = refl
    either false = refl

    act-tests : Tests p (act-line w k)
    act-tests = go (number_of p.sheet w) refl
      where
        go : (o : Option ℕ) → number_of p.sheet w ≡ o → Tests p (act-line w k)
        go (some a) e =
            judged p (act-line w k) p.model (act-entry a k) (act-known a e) (act-turn k p.model.last a 0, act-turn k p.model.last 0 a)
            (λ _. tt, λ _. (name-of p.sheet a w e).1) itself
            (λ h b f. subst (λ i. InOrder p.model.last (act-entry i k)) (some_inj.0 (sym e ∙ f)) h, λ h. h a e) tt (a, e) itself
        go none e = record {
          turn = out_of_turn p.model.last (act-entry 0 k);
          range = false;
          lack = false;
          order = false;
          badly = false;
          unknown = true;
          many = false;
          turn_is = turn-decided p.model.last (act-entry 0 k);
          range-is = never;
          lack-is = never;
          order_is = (λ _ a f. absurd (no-some e f), λ _. refl);
          badly-is = never;
          unknown-is = (λ x. absurd (true≢false x), λ x. absurd (no-some e x.1));
          many_is = never;
          roomy = (λ _. tt, λ _. tt);
          same = act-unknown e ∙ either (out_of_turn p.model.last (act-entry 0 k));
        }

  -- ---- a row
  module _ (s : ℕ) (g : Option ℕ) (w : Name) (r : List ℕ) (t : ℕ) where
    abbrev L : Line
    L = row-line s g w r t

    row-known : (a : ℕ) → number_of p.sheet w ≡ some a → fault_named p L ≡ fault_of p.model (row-entry s g a r t)
    unfolding fault_named
    row-known a e = rw (e, fault_named)

    row-unknown : number_of p.sheet w ≡ none → fault_named p L ≡ fault_of (without_acts p.model) (row-entry s g 0 r t)
    unfolding fault_named
    row-unknown e = rw (e, fault_named)

    -- a component without its actions has the same states, and no action
    abbrev E : Entry
    E = row-entry s g 0 r t

    states-same : (cs : List Comp)
        → (current (without_acts (record { comps = cs; last = p.model.last }))).states ≡ (current (record { comps = cs; last = p.model.last })).states
    states-same [] = refl
    states-same (c ∷ cs) = refl

    nothing-named : (cs : List Comp) → ¬ Named (current (without_acts (record { comps = cs; last = p.model.last }))) E
    nothing-named [] h = none_in 0 h.1
    nothing-named (c ∷ cs) h = none_in 0 h.1

    lacking : (b : Bool) → lacks (current (without_acts p.model)) E ≡ b → b ≡ true
    lacking true e = refl
    lacking false e = absurd (nothing-named p.model.comps ((names-decided (current (without_acts p.model)) E).0 e))

    five : (a b c d f g : Bool) → c ≡ true → chain a b c d false false f ≡ chain a b true false false false g
    five a b c d f g e = rw e

    row-tests : Tests p L
    row-tests = go (number_of p.sheet w) refl
      where
        go : (o : Option ℕ) → number_of p.sheet w ≡ o → Tests p L
        go (some a) e =
            judged p L p.model (row-entry s g a r t) (row-known a e) (row-turn s g r t p.model.last a 0, row-turn s g r t p.model.last 0 a)
            (λ h. (h.0, h.1, h.3, h.4), λ h. (h.0, h.1, (name-of p.sheet a w e).1, h.2, h.3))
            (λ h. (h.0, (a, e, h.1), h.2), λ h. (h.0, subst (λ i. i ∈ acts (current p.model)) (some_inj.0 (sym h.1.1 ∙ e)) h.1.2, h.2))
            (λ h b f. subst (λ i. InOrder p.model.last (row-entry s g i r t)) (some_inj.0 (sym e ∙ f)) h, λ h. h a e) tt tt itself
        go none e =
            let m = without_acts p.model in
            let n = states-same p.model.comps in
            record {
              turn = out_of_turn p.model.last E;
              range = out_of_range (current m) E;
              lack = true;
              order = false;
              badly = false;
              unknown = false;
              many = too_many p.model.comps E;
              turn_is = turn-decided p.model.last E;
              range-is = join (range-decided (current m) E) (
                λ h. (subst (λ i. s < i) n h.0, h.1, h.3, subst (λ i. t < i) n h.4),
                λ h. (subst (λ i. s < i) (sym n) h.0, h.1, omega arith, h.2, subst (λ i. t < i) (sym n) h.3),
              );
              lack-is = (λ x. absurd (true≢false x), λ h. absurd (no-some e h.1.1));
              order_is = (λ _ a f. absurd (no-some e f), λ _. refl);
              badly-is = never;
              unknown-is = never;
              many_is = room-decided p.model.comps E;
              roomy = (false-true, false-true);
              same =
                  row-unknown e ∙ fault-chain m E
                  ∙ five (out_of_turn p.model.last E) (out_of_range (current m) E) (lacks (current m) E) (out_of_order p.model.last E) (too_many m.comps E)
                  (too_many p.model.comps E) (lacking (lacks (current m) E) refl);
            }

  plain-tests : (e : Entry) → Tests p (plain-line e)
  unfolding fault_named
  plain-tests e = judged p (plain-line e) p.model e refl itself itself itself itself tt tt itself

  pub tests : (l : Line) → Tests p l
  tests form-line = form-tests
  tests (name-line n w) = name-tests n w
  tests (act-line w k) = act-tests w k
  tests (row-line s g w r t) = row-tests s g w r t
  tests (plain-line e) = plain-tests e

-- ---- the first test that is true
pub line-at : {bs : List ℕ} {l : Line} {cs : List ℕ} → LineAt₂ bs l cs → line bs ≡ got l cs
line-at {l = l} {cs} h = ap line h.printed ∙ line-exact.printed l cs h.fits tt

pub at-line : {bs : List ℕ} {l : Line} {cs : List ℕ} → line bs ≡ got l cs → LineAt₂ bs l cs
at-line {bs} {l} {cs} e = let s = line-exact.scanned bs (record { value = l; rest = cs }) e in record { fits = s.1; printed = s.0 }

pub one_line : {bs : List ℕ} {l d : Line} {cs ds : List ℕ} → LineAt₂ bs l cs → LineAt₂ bs d ds → l ≡ d
one_line h k = ap (λ (g : Got Line). g.value) (is-inj (sym (line-at h) ∙ line-at k))

module _ (p : Progress₂) (bs : List ℕ) (l : Line) (cs : List ℕ) (here : LineAt₂ bs l cs) where
  -- a line of good shape has no fault m where what m would deny holds
  pub no-fault : (m : ℕ) → (m ≡ 3 → InTurn₂ p l) → (m ≡ 4 → InRange₂ p l) → (m ≡ 5 → Named₂ p l) → (m ≡ 6 → InOrder₂ p l) → (m ≡ 43 → WellNamed p l)
      → (m ≡ 44 → ActKnown p l) → (m ≡ 7 → Room₂ p l)
      → LineFault₂ p bs m → ⊥
  no-fault m a b c d e f g (wrong-shape n h) = h l cs here
  no-fault m a b c d e f g (out-of-turn n h w) = w (subst (InTurn₂ p) (one_line here h) (a n))
  no-fault m a b c d e f g (is_out_of_range n h w) = w (subst (InRange₂ p) (one_line here h) (b n))
  no-fault m a b c d e f g (not_named n h w) = w (subst (Named₂ p) (one_line here h) (c n))
  no-fault m a b c d e f g (is_out_of_order n h w) = w (subst (InOrder₂ p) (one_line here h) (d n))
  no-fault m a b c d e f g (bad-name n h w) = w (subst (WellNamed p) (one_line here h) (e n))
  no-fault m a b c d e f g (not_known n h w) = w (subst (ActKnown p) (one_line here h) (f n))
  no-fault m a b c d e f g (is_too_many n h w) = w (subst (Room₂ p) (one_line here h) (g n))

  fails : {b : Bool} {P : Type 0} → b ≡ true → (b ≡ false) ↔ P → P → ⊥
  fails e f h = true≢false (sym e ∙ f.1 h)

  -- with what is known of the tests before it
  module _ (t : Tests p l) where
    lowest : (a b c d e f g : Bool) → t.turn ≡ a → t.range ≡ b → t.lack ≡ c → t.order ≡ d → t.badly ≡ e → t.unknown ≡ f → t.many ≡ g
        → (n : ℕ) → chain a b c d e f g ≡ some n → Lowest (LineFault₂ p bs) n
    lowest true b c d e f g ea eb ec ed ee ef eg n h =
        let z : 3 ≡ n = some_inj.0 h in
        record {
          here = out-of-turn (sym z) here (fails ea t.turn_is);
          before = λ m k. no-fault m (λ q. absurd (omega arith)) (λ q. absurd (omega arith)) (λ q. absurd (omega arith)) (λ q. absurd (omega arith))
              (λ q. absurd (omega arith)) (λ q. absurd (omega arith)) (λ q. absurd (omega arith));
        }
    lowest false true c d e f g ea eb ec ed ee ef eg n h =
        let z : 4 ≡ n = some_inj.0 h in
        record {
          here = is_out_of_range (sym z) here (fails eb t.range-is);
          before = λ m k. no-fault m (λ q. t.turn_is.0 ea) (λ q. absurd (omega arith)) (λ q. absurd (omega arith)) (λ q. absurd (omega arith))
              (λ q. absurd (omega arith)) (λ q. absurd (omega arith)) (λ q. absurd (omega arith));
        }
    lowest false false true d e f g ea eb ec ed ee ef eg n h =
        let z : 5 ≡ n = some_inj.0 h in
        record {
          here = not_named (sym z) here (fails ec t.lack-is);
          before = λ m k. no-fault m (λ q. t.turn_is.0 ea) (λ q. t.range-is.0 eb) (λ q. absurd (omega arith)) (λ q. absurd (omega arith))
              (λ q. absurd (omega arith)) (λ q. absurd (omega arith)) (λ q. absurd (omega arith));
        }
    lowest false false false true e f g ea eb ec ed ee ef eg n h =
        let z : 6 ≡ n = some_inj.0 h in
        record {
          here = is_out_of_order (sym z) here (fails ed t.order_is);
          before = λ m k. no-fault m (λ q. t.turn_is.0 ea) (λ q. t.range-is.0 eb) (λ q. t.lack-is.0 ec) (λ q. absurd (omega arith))
              (λ q. absurd (omega arith)) (λ q. absurd (omega arith)) (λ q. absurd (omega arith));
        }
    lowest false false false false true f g ea eb ec ed ee ef eg n h =
        let z : 43 ≡ n = some_inj.0 h in
        record {
          here = bad-name (sym z) here (fails ee t.badly-is);
          before = λ m k. no-fault m (λ q. t.turn_is.0 ea) (λ q. t.range-is.0 eb) (λ q. t.lack-is.0 ec) (λ q. t.order_is.0 ed)
              (λ q. absurd (omega arith)) (λ q. absurd (omega arith)) (λ q. t.roomy.0 ee);
        }
    lowest false false false false false true g ea eb ec ed ee ef eg n h =
        let z : 44 ≡ n = some_inj.0 h in
        record {
          here = not_known (sym z) here (fails ef t.unknown-is);
          before = λ m k. no-fault m (λ q. t.turn_is.0 ea) (λ q. t.range-is.0 eb) (λ q. t.lack-is.0 ec) (λ q. t.order_is.0 ed)
              (λ q. t.badly-is.0 ee) (λ q. absurd (omega arith)) (λ q. t.roomy.1 ef);
        }
    lowest false false false false false false true ea eb ec ed ee ef eg n h =
        let z : 7 ≡ n = some_inj.0 h in
        record {
          here = is_too_many (sym z) here (fails eg t.many_is);
          before = λ m k. no-fault m (λ q. t.turn_is.0 ea) (λ q. t.range-is.0 eb) (λ q. t.lack-is.0 ec) (λ q. t.order_is.0 ed)
              (λ q. absurd (omega arith)) (λ q. absurd (omega arith)) (λ q. absurd (omega arith));
        }
    lowest false false false false false false false ea eb ec ed ee ef eg n h = absurd (no-some refl h)

  pub fault-lowest : (n : ℕ) → fault_named p l ≡ some n → Lowest (LineFault₂ p bs) n
  fault-lowest n h =
      let t = tests p l in
      lowest t t.turn t.range t.lack t.order t.badly t.unknown t.many refl refl refl refl refl refl refl n (sym t.same ∙ h)

faultless-of : (p : Progress₂) (l : Line) (t : Tests p l) (a b c d e f g : Bool) → t.turn ≡ a → t.range ≡ b → t.lack ≡ c → t.order ≡ d → t.badly ≡ e
    → t.unknown ≡ f → t.many ≡ g
    → chain a b c d e f g ≡ none → Faultless₂ p l
faultless-of p l t true b c d e f g ea eb ec ed ee ef eg h = absurd (no-some h refl)
faultless-of p l t false true c d e f g ea eb ec ed ee ef eg h = absurd (no-some h refl)
faultless-of p l t false false true d e f g ea eb ec ed ee ef eg h = absurd (no-some h refl)
faultless-of p l t false false false true e f g ea eb ec ed ee ef eg h = absurd (no-some h refl)
faultless-of p l t false false false false true f g ea eb ec ed ee ef eg h = absurd (no-some h refl)
faultless-of p l t false false false false false true g ea eb ec ed ee ef eg h = absurd (no-some h refl)
faultless-of p l t false false false false false false true ea eb ec ed ee ef eg h = absurd (no-some h refl)
faultless-of p l t false false false false false false false ea eb ec ed ee ef eg h = record {
  in-turn = t.turn_is.0 ea;
  in-range = t.range-is.0 eb;
  named = t.lack-is.0 ec;
  in_order = t.order_is.0 ed;
  well-named = t.badly-is.0 ee;
  known = t.unknown-is.0 ef;
  room = t.many_is.0 eg;
}

pub fault-none : (p : Progress₂) (l : Line) → fault_named p l ≡ none → Faultless₂ p l
fault-none p l h =
    let t = tests p l in
    faultless-of p l t t.turn t.range t.lack t.order t.badly t.unknown t.many refl refl refl refl refl refl refl (sym t.same ∙ h)

pub none-fault : (p : Progress₂) (l : Line) → Faultless₂ p l → fault_named p l ≡ none
none-fault p l f =
    let t = tests p l in
    t.same
    ∙ rw (
      t.turn_is.1 f.in-turn,
      t.range-is.1 f.in-range,
      t.lack-is.1 f.named,
      t.order_is.1 f.in_order,
      t.badly-is.1 f.well-named,
      t.unknown-is.1 f.known,
      t.many_is.1 f.room,
    )
