-- The pairs that are led to, in place: from what each action is together with, action by action.
use mathlib.Core.Path.{◌≡◌}
use mathlib.Core.Logic.{◌↔◌, ◌⊎◌, inl, inr, ⊎_elim}
use mathlib.Core.List.{List}
use Prim.Native.Nat.{ℕ, zero, suc, ◌≤◌, ◌<◌}
use native.Mathlib.Omega.{arith}
use native.Mathlib.Numerals.{add-one}
use native.Mathlib.Decide.{ℕ_discrete}
use lib.ListN.{length, get_or}
use Rattle.laws.specs.Sets.{◌∈◌}
use Rattle.laws.specs.Fold.{over}
use Rattle.laws.proofs.FoldLaws.{over-end}
use Rattle.laws.proofs.UnionLaws.{over_last, over-keeps}
use Rattle.answer.specs.Limits.{max_actions}
use Rattle.model.specs.Model.{Model}
use Rattle.model.specs.WellFormed.{WellFormed}
use Rattle.iosa.specs.Automaton.{Joinable}
use Rattle.triggering.specs.Test.{crossed, together_of, spread_by}
use Rattle.triggering.specs.Triggering.{itself, Led}
use Rattle.triggering.proofs.Known.{joined}
use Rattle.triggering.proofs.Tables.{grows-crossed}
use Rattle.triggering.proofs.Together.{together-exactly, together-below, spread-exactly}
use Rattle.leads.proofs.Standing.{crossed-length}
use Rattle.linking.specs.Linking.{LeadTable, LedTable, led_from}
use Rattle.linking.proofs.Tables.{together-length}

module _ (m : Model) (w : WellFormed m) (join : Joinable m) (L : List ℕ) (l : LeadTable m L) where
  abbrev turn : ℕ → List ℕ → List ℕ
  turn a T = crossed (get_or L a 0) (spread_by L (get_or T a 0)) T

  -- after n actions: what is in a set is led to, what was together is there yet, and each action passed has led on
  record Spread (n : ℕ) (T : List ℕ) : Type 0 where
    sound : (a b : ℕ) → a < max_actions → b < max_actions → b ∈ get_or T a 0 → Led m a b
    kept : (a b : ℕ) → a < max_actions → b ∈ get_or (together_of m) a 0 → b ∈ get_or T a 0
    done : (c a b : ℕ) → c < n → a < max_actions → a ∈ get_or L c 0 → b ∈ spread_by L (get_or (together_of m) c 0) → b ∈ get_or T a 0

  first : Spread 0 (together_of m)
  first = record {
    sound = λ a b h k e. record { left = a; right = b; both = (together-exactly m w join a b h).0 e; leftward = itself; rightward = itself };
    kept = λ a b h e. e;
    done = λ c a b n h e f. absurd (omega (arith, n));
  }

  module _ (n : ℕ) (h : n < max_actions) (T : List ℕ) (p : Spread n T) where
    grows : (a b : ℕ) → a < max_actions → (b ∈ get_or (turn n T) a 0) ↔ (b ∈ get_or T a 0) ⊎ ((a ∈ get_or L n 0) × (b ∈ spread_by L (get_or T n 0)))
    grows = (grows-crossed (get_or L n 0) (spread_by L (get_or T n 0))).at T

    -- a leads on from n, and b from one that n is led to with
    further : (a b : ℕ) → a < max_actions → b < max_actions → a ∈ get_or L n 0 → b ∈ spread_by L (get_or T n 0) → Led m a b
    further a b i k e f =
        let s = (spread-exactly m w join L (get_or T n 0) b).0 f in
        let z = p.sound n s.0 h s.1 s.2 in
        record {
          left = z.left;
          right = z.right;
          both = z.both;
          leftward = joined z.leftward ((l.leads n a h i).0 e);
          rightward = joined z.rightward ((l.leads s.0 b s.1 k).0 s.3);
        }

    -- n leads on, with all that it was together with
    leads-on : (b : ℕ) → b ∈ spread_by L (get_or (together_of m) n 0) → b ∈ spread_by L (get_or T n 0)
    leads-on b f =
        let s = (spread-exactly m w join L (get_or (together_of m) n 0) b).0 f in
        (spread-exactly m w join L (get_or T n 0) b).1 (s.0, s.1, p.kept n s.0 h s.2, s.3)

    next : Spread (suc n) (turn n T)
    next = record {
      sound = λ a b i k e. ⊎_elim (p.sound a b i k) (λ q. further a b i k q.0 q.1) ((grows a b i).0 e);
      kept = λ a b i e. (grows a b i).1 (inl (p.kept a b i e));
      done = λ c a b k i e f. elim (ℕ_discrete c n) [
        | yes q ↦ (grows a b i).1 (inr (rw q at e, leads-on b (rw q at f)))
        | no q ↦ (grows a b i).1 (inl (p.done c a b (omega arith) i e f))
      ];
    }

  after : (n : ℕ) → n ≤ max_actions → Spread n (over turn 0 n (together_of m))
  after zero h = rw (over-end turn 0 0 (together_of m) (omega arith)) first
  after (suc n) h =
      let e : over turn 0 (suc n) (together_of m) ≡ turn n (over turn 0 n (together_of m)) = rw add-one at (over_last turn 0 n (together_of m) (omega arith)) in
      rw e (next n (omega arith) (over turn 0 n (together_of m)) (after n (omega arith)))

  pub led-table-is : (T : List ℕ) → T ≡ led_from L (together_of m) → LedTable m T
  unfolding led_from
  led-table-is T e = rw e (record {
    places = over-keeps turn (λ T. length T ≡ max_actions) 0 max_actions (together_of m) (λ a U p q n. long a U) (together-length m);
    led = λ a b h k. (
      s.sound a b h k,
      λ z.
          let n = together-below m w join z.both in
          s.done z.left a b n.0 h ((l.leads z.left a n.0 h).1 z.leftward)
          ((spread-exactly m w join L (get_or (together_of m) z.left 0) b).1 (
            z.right,
            n.1,
            (together-exactly m w join z.left z.right n.0).1 z.both,
            (l.leads z.right b n.1 k).1 z.rightward,
          )),
    );
  })
    where
      long : (a : ℕ) (T : List ℕ) → length (turn a T) ≡ max_actions
      long a T = crossed-length (get_or L a 0) (spread_by L (get_or T a 0)) T

      s : Spread max_actions (over turn 0 max_actions (together_of m))
      s = after max_actions (omega arith)
