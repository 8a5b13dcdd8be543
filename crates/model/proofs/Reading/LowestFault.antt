-- A line's lowest fault is what the tests of reading find first; a line with none is faultless.
use mathlib.Core.Path.{◌≡◌, refl, sym, ◌∙◌, ap, subst}
use mathlib.Core.Option.{Option, none, some, some_inj}
use mathlib.Core.Bool.{Bool, true, false, true≢false}
use mathlib.Core.List.{List, [], ◌∷◌}
use Prim.Native.Nat.{ℕ, ◌≤◌}
use native.Mathlib.Omega.{arith}
use Rattle.laws.specs.Search.{when, or_else}
use Rattle.laws.proofs.SearchLaws.{no-some}
use Rattle.laws.proofs.TestLaws.{apart-cases}
use Rattle.laws.specs.Lowest.{Lowest}
use Rattle.model.specs.Reading.{Got, stops, got, Entry, entry, Progress, current, out_of_turn, out_of_range, lacks, out_of_order, too_many, fault_of}
use Rattle.model.specs.Reading.{states_by, column_of, stop_column}
use Rattle.model.specs.Faulty.{InTurn, InRange, Named, InOrder, Room, Faultless, LineAt}
use Rattle.model.specs.Faulty.{LineFault, wrong-shape, out-of-turn, is_out_of_range, not_named, is_out_of_order, is_too_many, Carries, wrong_byte}
use Rattle.model.specs.Faulty.{range-value, name-value, line-alone}
use Rattle.model.proofs.Reading.Scans.{is-inj}
use Rattle.model.proofs.Reading.Lines.{line-exactly, no_line}
use Rattle.model.proofs.Reading.WrongByte.{wrong-byte-here, one-wrong-byte}
use Rattle.model.proofs.Reading.FirstValue.{first-value-exactly, first-name-exactly, one-first-value}
use Rattle.model.specs.Column.{FirstValue, Ranged, Owned}
use Rattle.model.proofs.Reading.Tests.{turn-decided, range-decided, names-decided, order-decided, room-decided}

module _ (p : Progress) (bs : List ℕ) (e : Entry) (cs : List ℕ) (read : entry bs ≡ got e cs) where
  same_line : {d : Entry} {ds : List ℕ} → LineAt bs d ds → e ≡ d
  same_line {d} {ds} h = ap (λ (g : Got Entry). g.value) (is-inj (sym read ∙ (line-exactly bs d ds).1 h))

  here : LineAt bs e cs
  here = (line-exactly bs e cs).0 read

  -- a line of good shape has no fault m where what m would deny holds
  pub no-fault : (m : ℕ) → (m ≡ 3 → InTurn p.last e) → (m ≡ 4 → InRange (current p) e) → (m ≡ 5 → Named (current p) e)
      → (m ≡ 6 → InOrder p.last e) → (m ≡ 7 → Room p.comps e)
      → LineFault p bs m → ⊥
  no-fault m a b c d f (wrong-shape n h) = h e cs here
  no-fault m a b c d f (out-of-turn n h w) = w (subst (InTurn p.last) (same_line h) (a n))
  no-fault m a b c d f (is_out_of_range n h w) = w (subst (InRange (current p)) (same_line h) (b n))
  no-fault m a b c d f (not_named n h w) = w (subst (Named (current p)) (same_line h) (c n))
  no-fault m a b c d f (is_out_of_order n h w) = w (subst (InOrder p.last) (same_line h) (d n))
  no-fault m a b c d f (is_too_many n h w) = w (subst (Room p.comps) (same_line h) (f n))

  -- the first of five tests that is true tells the number; those before it are false
  abbrev chain : (a b c d f : Bool) → Option ℕ
  chain a b c d f = or_else (when a 3) (or_else (when b 4) (or_else (when c 5) (or_else (when d 6) (when f 7))))

  faultless : (a b c d f : Bool) → out_of_turn p.last e ≡ a → out_of_range (current p) e ≡ b → lacks (current p) e ≡ c → out_of_order p.last e ≡ d
      → too_many p.comps e ≡ f
      → chain a b c d f ≡ none → Faultless p e
  faultless true b c d f ea eb ec ed ef h = absurd (no-some h refl)
  faultless false true c d f ea eb ec ed ef h = absurd (no-some h refl)
  faultless false false true d f ea eb ec ed ef h = absurd (no-some h refl)
  faultless false false false true f ea eb ec ed ef h = absurd (no-some h refl)
  faultless false false false false true ea eb ec ed ef h = absurd (no-some h refl)
  faultless false false false false false ea eb ec ed ef h =
      record {
        in-turn = (turn-decided p.last e).0 ea;
        in-range = (range-decided (current p) e).0 eb;
        named = (names-decided (current p) e).0 ec;
        in_order = (order-decided p.last e).0 ed;
        room = (room-decided p.comps e).0 ef;
      }

  lowest : (a b c d f : Bool) → out_of_turn p.last e ≡ a → out_of_range (current p) e ≡ b → lacks (current p) e ≡ c → out_of_order p.last e ≡ d
      → too_many p.comps e ≡ f
      → (n : ℕ) → chain a b c d f ≡ some n → Lowest (LineFault p bs) n
  lowest true b c d f ea eb ec ed ef n h =
      let z : 3 ≡ n = some_inj.0 h in
      record {
        here = out-of-turn (sym z) here (λ w. true≢false (sym ea ∙ (turn-decided p.last e).1 w));
        before =
            λ m l. no-fault m (λ q. absurd (omega arith)) (λ q. absurd (omega arith)) (λ q. absurd (omega arith)) (λ q. absurd (omega arith))
            (λ q. absurd (omega arith));
      }
  lowest false true c d f ea eb ec ed ef n h =
      let z : 4 ≡ n = some_inj.0 h in
      record {
        here = is_out_of_range (sym z) here (λ w. true≢false (sym eb ∙ (range-decided (current p) e).1 w));
        before =
            λ m l. no-fault m (λ q. (turn-decided p.last e).0 ea) (λ q. absurd (omega arith)) (λ q. absurd (omega arith))
            (λ q. absurd (omega arith)) (λ q. absurd (omega arith));
      }
  lowest false false true d f ea eb ec ed ef n h =
      let z : 5 ≡ n = some_inj.0 h in
      record {
        here = not_named (sym z) here (λ w. true≢false (sym ec ∙ (names-decided (current p) e).1 w));
        before =
            λ m l. no-fault m (λ q. (turn-decided p.last e).0 ea) (λ q. (range-decided (current p) e).0 eb) (λ q. absurd (omega arith))
            (λ q. absurd (omega arith)) (λ q. absurd (omega arith));
      }
  lowest false false false true f ea eb ec ed ef n h =
      let z : 6 ≡ n = some_inj.0 h in
      record {
        here = is_out_of_order (sym z) here (λ w. true≢false (sym ed ∙ (order-decided p.last e).1 w));
        before =
            λ m l. no-fault m (λ q. (turn-decided p.last e).0 ea) (λ q. (range-decided (current p) e).0 eb) (λ q. (names-decided (current p) e).0 ec)
            (λ q. absurd (omega arith)) (λ q. absurd (omega arith));
      }
  lowest false false false false true ea eb ec ed ef n h =
      let z : 7 ≡ n = some_inj.0 h in
      record {
        here = is_too_many (sym z) here (λ w. true≢false (sym ef ∙ (room-decided p.comps e).1 w));
        before =
            λ m l. no-fault m (λ q. (turn-decided p.last e).0 ea) (λ q. (range-decided (current p) e).0 eb) (λ q. (names-decided (current p) e).0 ec)
            (λ q. (order-decided p.last e).0 ed) (λ q. absurd (omega arith));
      }
  lowest false false false false false ea eb ec ed ef n h = absurd (no-some refl h)

  pub fault-some : (n : ℕ) → fault_of p e ≡ some n → Lowest (LineFault p bs) n
  unfolding fault_of
  fault-some n h =
      lowest (out_of_turn p.last e) (out_of_range (current p) e) (lacks (current p) e) (out_of_order p.last e) (too_many p.comps e) refl refl refl
      refl refl n h

  -- the column that is told is the one that the fault carries
  carries : (n : ℕ) → LineFault p bs n → Carries p bs n (column_of (current p) n e)
  unfolding column_of
  carries n (wrong-shape z h) = absurd (h e cs here)
  carries n (out-of-turn z h w) = rw z (line-alone (λ q. omega arith) (λ q. omega arith) (λ q. omega arith) refl)
  carries n (is_out_of_range z h w) =
      rw z (range-value refl here ((first-value-exactly (current p) e (λ q. w (subst (InRange (current p)) (same_line h) q)) _).0 refl) refl)
  carries n (not_named z h w) =
      rw z (name-value refl here ((first-name-exactly (current p) e (λ q. w (subst (Named (current p)) (same_line h) q)) _).0 refl) refl)
  carries n (is_out_of_order z h w) = rw z (line-alone (λ q. omega arith) (λ q. omega arith) (λ q. omega arith) refl)
  carries n (is_too_many z h w) = rw z (line-alone (λ q. omega arith) (λ q. omega arith) (λ q. omega arith) refl)

  pub fault-carries : (n : ℕ) → fault_of p e ≡ some n → Carries p bs n (column_of (current p) n e)
  fault-carries n h = carries n (fault-some n h).here

  pub fault-none : fault_of p e ≡ none → Faultless p e
  unfolding fault_of
  fault-none h =
      faultless (out_of_turn p.last e) (out_of_range (current p) e) (lacks (current p) e) (out_of_order p.last e) (too_many p.comps e) refl refl
      refl refl refl h

pub none-fault : (p : Progress) (e : Entry) → Faultless p e → fault_of p e ≡ none
unfolding fault_of
none-fault p e f = rw (
  (turn-decided p.last e).1 f.in-turn,
  (range-decided (current p) e).1 f.in-range,
  (names-decided (current p) e).1 f.named,
  (order-decided p.last e).1 f.in_order,
  (room-decided p.comps e).1 f.room,
)

pub one-lowest : (p : Progress) (bs : List ℕ) (m n : ℕ) → Lowest (LineFault p bs) m → Lowest (LineFault p bs) n → m ≡ n
one-lowest p bs m n a b = apart-cases m n (λ e. e) (λ h. absurd (b.before m h a.here)) (λ h. absurd (a.before n h b.here))

pub fault-number : {p : Progress} {bs : List ℕ} {n : ℕ} → LineFault p bs n → (2 ≤ n) × (n ≤ 7)
fault-number (wrong-shape e h) = (omega arith, omega arith)
fault-number (out-of-turn e h w) = (omega arith, omega arith)
fault-number (is_out_of_range e h w) = (omega arith, omega arith)
fault-number (not_named e h w) = (omega arith, omega arith)
fault-number (is_out_of_order e h w) = (omega arith, omega arith)
fault-number (is_too_many e h w) = (omega arith, omega arith)

pub shapeless : (p : Progress) (bs cs : List ℕ) → entry bs ≡ stops cs → Lowest (LineFault p bs) 2
shapeless p bs cs e = record { here = wrong-shape refl (no_line bs cs e); before = λ m h w. omega (arith, (fault-number w).0) }

pub shapeless-carries : (p : Progress) (bs cs : List ℕ) → entry bs ≡ stops cs → Carries p bs 2 (stop_column bs cs ∷ [])
shapeless-carries p bs cs e = wrong_byte refl (wrong-byte-here bs cs e) refl

-- a fault carries no other column
one_line : {bs : List ℕ} {d e : Entry} {cs ds : List ℕ} → LineAt bs d cs → LineAt bs e ds → d ≡ e
one_line {bs} {d} {e} {cs} {ds} a b = ap (λ (g : Got Entry). g.value) (is-inj (sym ((line-exactly bs d cs).1 a) ∙ (line-exactly bs e ds).1 b))

pub one-column : {p : Progress} {bs : List ℕ} {n : ℕ} {a b : List ℕ} → Carries p bs n a → Carries p bs n b → a ≡ b
one-column (wrong_byte z w q) (wrong_byte y v r) = q ∙ ap (λ k. k ∷ []) (one-wrong-byte w v) ∙ sym r
one-column (wrong_byte z w q) (range-value y l v r) = absurd (omega arith)
one-column (wrong_byte z w q) (name-value y l v r) = absurd (omega arith)
one-column (wrong_byte z w q) (line-alone x y v r) = absurd (x z)
one-column (range-value z l w q) (wrong_byte y v r) = absurd (omega arith)
one-column {p} (range-value {e = e} {k = j} z l w q) (range-value {e = d} {k = k} y m v r) =
    let f : FirstValue (Ranged (states_by (current p) e)) e k = subst (λ e. FirstValue (Ranged (states_by (current p) e)) e k) (one_line m l) v in
    q ∙ ap (λ k. k ∷ []) (one-first-value w f) ∙ sym r
one-column (range-value z l w q) (name-value y m v r) = absurd (omega arith)
one-column (range-value z l w q) (line-alone x y v r) = absurd (y z)
one-column (name-value z l w q) (wrong_byte y v r) = absurd (omega arith)
one-column (name-value z l w q) (range-value y m v r) = absurd (omega arith)
one-column {p} (name-value {e = e} {k = j} z l w q) (name-value {e = d} {k = k} y m v r) =
    let f : FirstValue (Owned (current p)) e k = subst (λ e. FirstValue (Owned (current p)) e k) (one_line m l) v in
    q ∙ ap (λ k. k ∷ []) (one-first-value w f) ∙ sym r
one-column (name-value z l w q) (line-alone x y v r) = absurd (v z)
one-column (line-alone x y v q) (wrong_byte z w r) = absurd (x z)
one-column (line-alone x y v q) (range-value z l w r) = absurd (y z)
one-column (line-alone x y v q) (name-value z l w r) = absurd (v z)
one-column (line-alone x y v q) (line-alone x₂ y₂ v₂ r) = q ∙ sym r
