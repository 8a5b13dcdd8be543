-- 2 tells the first byte that no line of a tree could have there.
use mathlib.Core.Path.{◌≡◌, refl, sym, ◌∙◌, ap, subst}
use mathlib.Core.Logic.{◌↔◌}
use mathlib.Core.Bool.{Bool, true, false}
use mathlib.Core.List.{List, [], ◌∷◌, ◌++◌, append_assoc, append-nil, map}
use Prim.Native.Nat.{ℕ, zero, suc, ◌+◌, ◌≤◌}
use native.Mathlib.Omega.{arith}
use lib.ListN.{length, replicate}
use lib.Dec.{eqb}
use borrow.Author.Tests.{eqb-true}
use Rattle.model.specs.Text.{tab, lf, decimal, fields_after}
use Rattle.model.specs.Reading.{Got, Scan, is, stops, got, then, furthest, exactly, the_byte, number, field, stop_column}
use Rattle.model.specs.Line.{Fits, AllFit}
use Rattle.model.specs.Column.{BeginsOf}
use Rattle.model.proofs.Reading.Scans.{stops-inj, no-is}
use Rattle.model.proofs.Reading.Fields.{number-exact}
use Rattle.model.proofs.Reading.Local.{Local, StopLocal, stop-local, local-as, got-local, testing, test-local, then-local, exactly-local}
use Rattle.model.proofs.Reading.Local.{number-local, field-local, exact-local, furthest-local, both-stop, shorter-either}
use Rattle.model.proofs.Reading.WrongByte.{exactly-opens, number-opens, byte-stops, field-opens}
use Rattle.model.proofs.Reading.Stopped.{front-begins, stop-is-wrong, one-wrong}
use Rattle.trees.specs.Tree.{Sort, be-sort, and-sort, or-sort, pand-sort, rbox-sort, Element}
use Rattle.trees.specs.TreeText.{sort_word, fewest, at_most_more, element_text, sort_scan, more_inputs, inputs, ended, behind_word, element}
use Rattle.trees.specs.TreeFaults.{ElementFits, WrongByte}
use Rattle.trees.proofs.Scans.{sort-exact, tabbed, tabbed-fields, num-back, inputs-scanned, element-exact, more-step, more-end}

-- ---- what a scan says up to the byte where it stops does not depend on the bytes behind that byte
word-local : (s : Sort) → StopLocal (λ bs. then (exactly (sort_word s) bs) (λ _ cs. got s cs))
word-local s = stop-local (then-local (exactly (sort_word s)) (λ _ cs. got s cs) (exactly-local (sort_word s)) (λ _. got-local s))

sort-local : Local sort_scan
unfolding sort_scan
sort-local =
    exact-local sort-exact
    (furthest-local (word-local be-sort) (furthest-local (word-local and-sort)
    (furthest-local (word-local or-sort) (furthest-local (word-local pand-sort) (word-local rbox-sort)))))

more-local : (k : ℕ) → Local (more_inputs k)
unfolding more_inputs
more-local zero = local-as (λ bs. refl) (got-local [])
more-local (suc k) =
    local-as computes (test-local (λ b. eqb b tab) (λ _ bs. list bs) (λ bs. got [] bs) (λ _. listed (more-local k)) (got-local []) (λ bs. refl))
  where
    list : List ℕ → Scan (List ℕ)
    list bs = then (number bs) (λ n cs. then (more_inputs k cs) (λ ns ds. got (n ∷ ns) ds))

    listed : Local (more_inputs k) → Local list
    listed l =
        then-local number (λ n cs. then (more_inputs k cs) (λ ns ds. got (n ∷ ns) ds)) number-local
        (λ n. then-local (more_inputs k) (λ ns ds. got (n ∷ ns) ds) l (λ ns. got-local (n ∷ ns)))

    computes : (bs : List ℕ) → more_inputs (suc k) bs ≡ testing (λ b. eqb b tab) (λ _ bs. list bs) (λ bs. got [] bs) bs
    computes [] = refl
    computes (b ∷ bs) = refl

inputs-local : (n k : ℕ) → Local (inputs n k)
unfolding inputs
inputs-local zero k = local-as (λ bs. refl) (more-local k)
inputs-local (suc n) k =
    local-as (λ bs. refl) (then-local (field number) (λ x cs. then (inputs n k cs) (λ xs ds. got (x ∷ xs) ds)) (field-local number-local)
    (λ x. then-local (inputs n k) (λ xs ds. got (x ∷ xs) ds) (inputs-local n k) (λ xs. got-local (x ∷ xs))))

ended-local : (e : Element) → Local (ended e)
ended-local e = then-local (the_byte lf) (λ _ cs. got e cs) (exactly-local (lf ∷ [])) (λ _. got-local e)

element-local : Local element
unfolding element behind_word
element-local =
    then-local sort_scan behind_word sort-local (λ s.
    then-local (field number) _ (field-local number-local) (λ n.
    then-local (inputs (fewest s) (at_most_more s)) _ (inputs-local (fewest s) (at_most_more s)) (λ xs. ended-local (record { sort = s; number = n; ins = xs }))))

-- ---- the bytes up to where a scan stops can be gone on with
-- as many zeros
zeros-fit : (n : ℕ) → AllFit (replicate n 0)
zeros-fit zero = tt
zeros-fit (suc n) = (omega arith, zeros-fit n)

zeros-long : (n : ℕ) → length (replicate {A = ℕ} n 0) ≡ n
zeros-long zero = refl
zeros-long (suc n) = ap suc (zeros-long n)

-- the bytes up to m begin the fields of n inputs, or of up to k more, and an LF
record OpensInputs (n k : ℕ) (bs m : List ℕ) : Type 0 where
  front : List ℕ
  bytes : bs ≡ front ++ m
  ins : List ℕ
  fit : AllFit ins
  enough : n ≤ length ins
  no_more : length ins ≤ n + k
  rest : List ℕ
  printed : fields_after (map decimal ins) ≡ front ++ rest

-- an input more in front
more-opens : (n n' k k' : ℕ) (bs cs m : List ℕ) (x : ℕ) → Fits x → bs ≡ (tab ∷ decimal x) ++ cs → n' ≤ suc n → suc (n + k) ≤ n' + k'
    → OpensInputs n k cs m → OpensInputs n' k' bs m
unfolding fields_after
more-opens n n' k k' bs cs m x h at l o p =
    record {
      front = (tab ∷ decimal x) ++ p.front;
      bytes = at ∙ ap (λ (l : List ℕ). (tab ∷ decimal x) ++ l) p.bytes ∙ sym (append_assoc (tab ∷ decimal x) p.front m);
      ins = x ∷ p.ins;
      fit = (h, p.fit);
      enough = omega (arith, p.enough);
      no_more = omega (arith, p.no_more);
      rest = p.rest;
      printed = ap (λ (l : List ℕ). (tab ∷ decimal x) ++ l) p.printed ∙ sym (append_assoc (tab ∷ decimal x) p.front p.rest);
    }

-- a first input of which f is the front
opened : (x : ℕ) (xs f rest : List ℕ) → tab ∷ decimal x ≡ f ++ rest → fields_after (map decimal (x ∷ xs)) ≡ f ++ (rest ++ fields_after (map decimal xs))
unfolding fields_after
opened x xs f rest e = ap (λ (l : List ℕ). l ++ fields_after (map decimal xs)) e ∙ append_assoc f rest (fields_after (map decimal xs))

more_inputs-open : (k : ℕ) (bs m : List ℕ) → more_inputs k bs ≡ stops m → OpensInputs 0 k bs m
unfolding more_inputs
more_inputs-open zero bs m e = absurd (no-is e refl)
more_inputs-open (suc k) [] m e = absurd (no-is e refl)
more_inputs-open (suc k) (b ∷ bs) m e = go (more_inputs-open k) (eqb b tab) refl
  where
    list : Scan ℕ → Scan (List ℕ)
    list o = then o (λ n cs. then (more_inputs k cs) (λ ns ds. got (n ∷ ns) ds))

    go : ((cs m : List ℕ) → more_inputs k cs ≡ stops m → OpensInputs 0 k cs m) → (t : Bool) → eqb b tab ≡ t → OpensInputs 0 (suc k) (b ∷ bs) m
    go ih false q = absurd (no-is (sym (more-end k b bs q) ∙ e) refl)
    go ih true q = inner (number bs) refl (sym (more-step k b bs q) ∙ e)
      where
        at-tab : b ∷ bs ≡ tab ∷ bs
        at-tab = ap {B = List ℕ} (λ x. x ∷ bs) (eqb-true b tab q)

        inner : (o : Scan ℕ) → number bs ≡ o → list (number bs) ≡ stops m → OpensInputs 0 (suc k) (b ∷ bs) m
        inner (stops n) w z =
            let p = number-opens bs m (w ∙ ap (λ l. stops l) (stops-inj (ap list (sym w) ∙ z))) in
            record {
              front = tab ∷ p.front;
              bytes = at-tab ∙ ap {B = List ℕ} (λ l. tab ∷ l) p.bytes;
              ins = p.value ∷ [];
              fit = (p.good, tt);
              enough = omega arith;
              no_more = omega arith;
              rest = p.rest ++ fields_after [];
              printed = opened p.value [] (tab ∷ p.front) p.rest (ap {B = List ℕ} (λ l. tab ∷ l) p.printed);
            }
        inner (is g) w z = deeper (more_inputs k g.rest) refl (ap list (sym w) ∙ z)
          where
            deeper : (o : Scan (List ℕ)) → more_inputs k g.rest ≡ o → then o (λ ns ds. got (g.value ∷ ns) ds) ≡ stops m → OpensInputs 0 (suc k) (b ∷ bs) m
            deeper (is h) y z = absurd (no-is z refl)
            deeper (stops n) y z =
                let r = number-exact.scanned bs g w in
                more-opens 0 0 k (suc k) (b ∷ bs) g.rest m g.value r.1 (at-tab ∙ ap {B = List ℕ} (λ l. tab ∷ l) r.0) (omega arith) (omega arith)
                (ih g.rest m (y ∙ ap (λ l. stops l) (stops-inj z)))

inputs-open : (n k : ℕ) (bs m : List ℕ) → inputs n k bs ≡ stops m → OpensInputs n k bs m
unfolding inputs
inputs-open zero k bs m e = more_inputs-open k bs m e
inputs-open (suc n) k bs m e = inner (inputs-open n k) (field number bs) refl e
  where
    inner : ((cs m : List ℕ) → inputs n k cs ≡ stops m → OpensInputs n k cs m) → (o : Scan ℕ) → field number bs ≡ o
        → then o (λ x cs. then (inputs n k cs) (λ xs ds. got (x ∷ xs) ds)) ≡ stops m → OpensInputs (suc n) k bs m
    inner ih (stops l) w z =
        let p = field-opens {S = number} {print = decimal} {Good = Fits} 0 (omega arith) number-opens bs m (w ∙ ap (λ l. stops l) (stops-inj z)) in
        let long = zeros-long n in
        record {
          front = p.front;
          bytes = p.bytes;
          ins = p.value ∷ replicate n 0;
          fit = (p.good, zeros-fit n);
          enough = omega (arith, long);
          no_more = omega (arith, long);
          rest = p.rest ++ fields_after (map decimal (replicate n 0));
          printed = opened p.value (replicate n 0) p.front p.rest p.printed;
        }
    inner ih (is g) w z = deeper (inputs n k g.rest) refl z
      where
        deeper : (o : Scan (List ℕ)) → inputs n k g.rest ≡ o → then o (λ xs ds. got (g.value ∷ xs) ds) ≡ stops m → OpensInputs (suc n) k bs m
        deeper (is h) y z = absurd (no-is z refl)
        deeper (stops l) y z =
            let r = num-back bs g w in
            more-opens n (suc n) k k bs g.rest m g.value r.1 r.0 (omega arith) (omega arith) (ih g.rest m (y ∙ ap (λ l. stops l) (stops-inj z)))

-- ---- a line
abbrev Begins : List ℕ → Type 0
Begins bs = BeginsOf element_text ElementFits bs

abbrev Up : List ℕ → List ℕ → Type 0
Up bs m = (f : List ℕ) × (bs ≡ f ++ m) × Begins f

-- of each sort there is a line with any number
some-line : (s : Sort) (n : ℕ) → Fits n → ElementFits (record { sort = s; number = n; ins = replicate (fewest s) 0 })
some-line s n h = let long = zeros-long (fewest s) in record { digits = (h, zeros-fit (fewest s)); enough = omega (arith, long); no_more = omega (arith, long) }

-- where a line's bytes are cut: within its inputs, within its number, and behind its word
inputs-begin : (s : Sort) (n : ℕ) (xs f rest : List ℕ) → ElementFits (record { sort = s; number = n; ins = xs }) → fields_after (map decimal xs) ≡ f ++ rest
    → Begins (sort_word s ++ ((tab ∷ decimal n) ++ f))
unfolding element_text fields_after
inputs-begin s n xs f rest h e =
    record {
      line = record { sort = s; number = n; ins = xs };
      fits = h;
      rest = rest;
      printed =
          ap (λ (l : List ℕ). sort_word s ++ ((tab ∷ decimal n) ++ l)) e
          ∙ ap (λ (l : List ℕ). sort_word s ++ l) (sym (append_assoc (tab ∷ decimal n) f rest)) ∙ sym (append_assoc (sort_word s) ((tab ∷ decimal n) ++ f) rest);
    }

number-begins : (s : Sort) (n : ℕ) (f rest : List ℕ) → Fits n → tab ∷ decimal n ≡ f ++ rest → Begins (sort_word s ++ f)
number-begins s n f rest h e =
    let z = some-line s n h in
    let whole : Begins (sort_word s ++ ((tab ∷ decimal n) ++ [])) = inputs-begin s n (replicate (fewest s) 0) []
    (fields_after (map decimal (replicate (fewest s) 0))) z refl in
    front-begins element_text ElementFits (sort_word s ++ f) rest
    (subst Begins (ap (λ (l : List ℕ). sort_word s ++ l) (append-nil (tab ∷ decimal n) ∙ e) ∙ sym (append_assoc (sort_word s) f rest)) whole)

word-begins : (s : Sort) → Begins (sort_word s)
word-begins s = subst Begins (append-nil (sort_word s)) (number-begins s 0 [] (tab ∷ decimal 0) (omega arith) refl)

-- the first word
sort-opens : (bs m : List ℕ) → sort_scan bs ≡ stops m → Up bs m
unfolding sort_scan
sort-opens bs m e =
    either (word be-sort) _ (stopped be-sort) (either (word and-sort) _ (stopped and-sort) (either (word or-sort) _ (stopped or-sort)
    (either (word pand-sort) (word rbox-sort) (stopped pand-sort) (stopped rbox-sort)))) m e
  where
    word : Sort → Scan Sort
    word s = then (exactly (sort_word s) bs) (λ _ cs. got s cs)

    begun : (s : Sort) (f rest : List ℕ) → sort_word s ≡ f ++ rest → Begins f
    begun s f rest q = front-begins element_text ElementFits f rest (subst Begins q (word-begins s))

    stopped : (s : Sort) (n : List ℕ) → word s ≡ stops n → Up bs n
    stopped s n e = go (exactly (sort_word s) bs) refl e
      where
        go : (o : Scan (Unit {0})) → exactly (sort_word s) bs ≡ o → then o (λ _ cs. got s cs) ≡ stops n → Up bs n
        go (is g) q e = absurd (no-is e refl)
        go (stops l) q e = let t = exactly-opens (sort_word s) bs n (q ∙ ap (λ l. stops l) (stops-inj e)) in (t.0, t.2, begun s t.0 t.1 t.3)

    either : (o p : Scan Sort) → ((n : List ℕ) → o ≡ stops n → Up bs n) → ((n : List ℕ) → p ≡ stops n → Up bs n) → (n : List ℕ)
        → furthest o p ≡ stops n → Up bs n
    either o p f g n e = let t = both-stop o p e in subst (Up bs) t.4 (shorter-either (Up bs) t.0 t.1 (f t.0 t.2) (g t.1 t.3))

-- behind the first word: a number that is not there, inputs that are not there, or no LF
behind-opens : (s : Sort) (bs m : List ℕ) → behind_word s bs ≡ stops m → (f : List ℕ) × (bs ≡ f ++ m) × Begins (sort_word s ++ f)
unfolding behind_word
behind-opens s bs m e = first (field number bs) refl e
  where
    Goal : Type 0
    Goal = (f : List ℕ) × (bs ≡ f ++ m) × Begins (sort_word s ++ f)

    rest_of : ℕ → List ℕ → Scan Element
    rest_of n cs = then (inputs (fewest s) (at_most_more s) cs) (λ xs ds. ended (record { sort = s; number = n; ins = xs }) ds)

    first : (o : Scan ℕ) → field number bs ≡ o → then o rest_of ≡ stops m → Goal
    first (stops l) w z =
        let p = field-opens {S = number} {print = decimal} {Good = Fits} 0 (omega arith) number-opens bs m (w ∙ ap (λ l. stops l) (stops-inj z)) in
        (p.front, p.bytes, number-begins s p.value p.front p.rest p.good p.printed)
    first (is g) w z = second (inputs (fewest s) (at_most_more s) g.rest) refl z
      where
        n : ℕ
        n = g.value

        at : bs ≡ (tab ∷ decimal n) ++ g.rest
        at = (num-back bs g w).0

        front_of : (f : List ℕ) → g.rest ≡ f ++ m → bs ≡ ((tab ∷ decimal n) ++ f) ++ m
        front_of f q = at ∙ ap (λ (l : List ℕ). (tab ∷ decimal n) ++ l) q ∙ sym (append_assoc (tab ∷ decimal n) f m)

        last : (h : Got (List ℕ)) → inputs (fewest s) (at_most_more s) g.rest ≡ is h → (o : Scan (Unit {0})) → the_byte lf h.rest ≡ o
            → then {B = Element} o (λ _ cs. got (record { sort = s; number = n; ins = h.value }) cs) ≡ stops m → Goal
        last h y (is u) v z = absurd (no-is z refl)
        last h y (stops l) v z =
            let x = inputs-scanned (fewest s) (at_most_more s) g.rest h y in
            let q = byte-stops lf h.rest m (v ∙ ap (λ l. stops l) (stops-inj z)) in (
              (tab ∷ decimal n) ++ tabbed h.value,
              front_of (tabbed h.value) (x.front ∙ ap (λ (l : List ℕ). tabbed h.value ++ l) q),
              inputs-begin s n h.value (tabbed h.value) (fields_after [])
                  (record { digits = ((num-back bs g w).1, x.fit); enough = x.enough; no_more = x.no_more }) (tabbed-fields h.value),
            )

        second : (o : Scan (List ℕ)) → inputs (fewest s) (at_most_more s) g.rest ≡ o
            → then o (λ xs ds. ended (record { sort = s; number = n; ins = xs }) ds) ≡ stops m → Goal
        second (stops l) y z =
            let p = inputs-open (fewest s) (at_most_more s) g.rest m (y ∙ ap (λ l. stops l) (stops-inj z)) in (
              (tab ∷ decimal n) ++ p.front,
              front_of p.front p.bytes,
              inputs-begin s n p.ins p.front p.rest
                  (record { digits = ((num-back bs g w).1, p.fit); enough = p.enough; no_more = p.no_more }) p.printed,
            )
        second (is h) y z = last h y (the_byte lf h.rest) refl z

element-begins : (bs m : List ℕ) → element bs ≡ stops m → Up bs m
unfolding element
element-begins bs m e = go (sort_scan bs) refl e
  where
    go : (o : Scan Sort) → sort_scan bs ≡ o → then o behind_word ≡ stops m → Up bs m
    go (stops l) q z = sort-opens bs m (q ∙ ap (λ l. stops l) (stops-inj z))
    go (is g) q z =
        let t = behind-opens g.value g.rest m z in
        let w = (sort-exact.scanned bs g q).0 in
        (sort_word g.value ++ t.0, w ∙ ap (λ (l : List ℕ). sort_word g.value ++ l) t.1 ∙ sym (append_assoc (sort_word g.value) t.0 m), t.2)

-- ---- the wrong byte: where a line's scan stops, and there is no other
pub wrong-byte-here : (bs cs : List ℕ) → element bs ≡ stops cs → WrongByte bs (stop_column bs cs)
wrong-byte-here = stop-is-wrong element element_text ElementFits element-exact (stop-local element-local) element-begins

pub one-wrong-byte : {bs : List ℕ} {j k : ℕ} → WrongByte bs j → WrongByte bs k → j ≡ k
one-wrong-byte = one-wrong element_text ElementFits

pub wrong-byte-exactly : (bs cs : List ℕ) → element bs ≡ stops cs → (column : ℕ) → (stop_column bs cs ≡ column) ↔ WrongByte bs column
wrong-byte-exactly bs cs e column = (λ h. subst (WrongByte bs) h (wrong-byte-here bs cs e), λ w. one-wrong-byte (wrong-byte-here bs cs e) w)
