-- A line of a tree is scanned as it is printed, and printed as it was scanned.
use mathlib.Core.Path.{◌≡◌, refl, sym, ◌∙◌, ap}
use mathlib.Core.Logic.{⊎_elim, ◌↔◌}
use mathlib.Core.Bool.{Bool, true, false}
use mathlib.Core.List.{List, [], ◌∷◌, ◌++◌, append_assoc, map}
use Prim.Native.Nat.{ℕ, zero, suc, ◌+◌, ◌≤◌}
use native.Mathlib.Omega.{arith}
use lib.ListN.{length}
use lib.Dec.{eqb}
use borrow.Author.Tests.{eqb-true}
use Rattle.model.specs.Text.{tab, lf, decimal, fields_after}
use Rattle.model.specs.Reading.{Got, Scan, is, stops, got, then, furthest, exactly, the_byte, number, field}
use Rattle.model.specs.Line.{Fits, AllFit, Any, Exact}
use Rattle.model.proofs.Reading.Scans.{is-inj, no-is, then_is}
use Rattle.model.proofs.Reading.Fields.{exactly-scanned, number-exact, furthest-is}
use Rattle.model.proofs.Reading.Lines.{field-printed, field-scanned, field-before}
use Rattle.trees.specs.Tree.{Sort, be-sort, and-sort, or-sort, pand-sort, rbox-sort, Element}
use Rattle.trees.specs.TreeText.{sort_word, fewest, at_most_more, numbers_of, element_text, sort_scan, more_inputs, inputs, ended, behind_word, element}
use Rattle.trees.specs.TreeFaults.{ElementFits, LineAt}

-- ---- the first word
sort-printed : (s : Sort) (bs : List ℕ) → sort_scan (sort_word s ++ bs) ≡ got s bs
unfolding sort_scan exactly
sort-printed be-sort bs = refl
sort-printed and-sort bs = refl
sort-printed or-sort bs = refl
sort-printed pand-sort bs = refl
sort-printed rbox-sort bs = refl

sort-word : (s : Sort) (bs : List ℕ) (g : Got Sort) → then (exactly (sort_word s) bs) (λ _ cs. got s cs) ≡ is g → bs ≡ sort_word g.value ++ g.rest
sort-word s bs g e =
    let t = then_is (exactly (sort_word s) bs) (λ _ cs. got s cs) e in
    let q = is-inj t.2 in
    exactly-scanned (sort_word s) bs t.0 t.1 ∙ ap (λ (r : Got Sort). sort_word r.value ++ r.rest) q

sort-scanned : (bs : List ℕ) (g : Got Sort) → sort_scan bs ≡ is g → bs ≡ sort_word g.value ++ g.rest
unfolding sort_scan
sort-scanned bs g e =
    ⊎_elim (sort-word be-sort bs g) (λ e.
    ⊎_elim (sort-word and-sort bs g) (λ e.
    ⊎_elim (sort-word or-sort bs g) (λ e.
    ⊎_elim (sort-word pand-sort bs g) (sort-word rbox-sort bs g)
    (furthest-is (word pand-sort) (word rbox-sort) e))
    (furthest-is (word or-sort) (furthest (word pand-sort) (word rbox-sort)) e))
    (furthest-is (word and-sort) (furthest (word or-sort) (furthest (word pand-sort) (word rbox-sort))) e))
    (furthest-is (word be-sort) (furthest (word and-sort) (furthest (word or-sort) (furthest (word pand-sort) (word rbox-sort)))) e)
  where
    word : Sort → Scan Sort
    word s = then (exactly (sort_word s) bs) (λ _ cs. got s cs)

pub sort-exact : Exact sort_scan sort_word (λ _. Unit {0}) Any
sort-exact = record { printed = λ s bs h e. sort-printed s bs; scanned = λ bs g e. (sort-scanned bs g e, tt) }

-- ---- the inputs
num : (n : ℕ) → Fits n → (fs : List (List ℕ)) (bs : List ℕ) → field number (fields_after (decimal n ∷ fs) ++ bs) ≡ got n (fields_after fs ++ bs)
num = field-printed number decimal Fits number-exact

pub num-back : (bs : List ℕ) (g : Got ℕ) → field number bs ≡ is g → (bs ≡ (tab ∷ decimal g.value) ++ g.rest) × Fits g.value
num-back = field-scanned number decimal Fits number-exact

-- a tab, and a number
pub more-step : (k b : ℕ) (bs : List ℕ) → eqb b tab ≡ true → more_inputs (suc k) (b ∷ bs)
    ≡ then (number bs) (λ n cs. then (more_inputs k cs) (λ ns ds. got (n ∷ ns) ds))
unfolding more_inputs
more-step k b bs e = rw (e, more_inputs)

pub more-end : (k b : ℕ) (bs : List ℕ) → eqb b tab ≡ false → more_inputs (suc k) (b ∷ bs) ≡ got [] (b ∷ bs)
unfolding more_inputs
more-end k b bs e = rw (e, more_inputs)

more-zero : (bs : List ℕ) → more_inputs zero bs ≡ got [] bs
unfolding more_inputs
more-zero bs = refl

more-nothing : (k : ℕ) → more_inputs (suc k) [] ≡ got [] []
unfolding more_inputs
more-nothing k = refl

more-printed : (k : ℕ) (xs bs : List ℕ) → AllFit xs → length xs ≤ k → more_inputs k (fields_after (map decimal xs) ++ bs) ≡ got xs (fields_after [] ++ bs)
unfolding more_inputs fields_after exactly
more-printed zero [] bs h l = refl
more-printed zero (x ∷ xs) bs h l = absurd (omega arith)
more-printed (suc k) [] bs h l = refl
more-printed (suc k) (x ∷ xs) bs h l = rw (num x h.0 (map decimal xs) bs) (rw (more-printed k xs bs h.1 (omega arith)))

inputs-printed : (n k : ℕ) (xs bs : List ℕ) → AllFit xs → n ≤ length xs → length xs ≤ n + k → inputs n k (fields_after (map decimal xs) ++ bs)
    ≡ got xs (fields_after [] ++ bs)
unfolding inputs
inputs-printed zero k xs bs h l m = more-printed k xs bs h (omega arith)
inputs-printed (suc n) k [] bs h l m = absurd (omega arith)
inputs-printed (suc n) k (x ∷ xs) bs h l m = rw (num x h.0 (map decimal xs) bs) (rw (inputs-printed n k xs bs h.1 (omega arith) (omega arith)))

-- numbers, each behind a tab
abbrev pub tabbed : List ℕ → List ℕ
tabbed [] = []
tabbed (x ∷ xs) = (tab ∷ decimal x) ++ tabbed xs

pub tabbed-fields : (xs : List ℕ) → fields_after (map decimal xs) ≡ tabbed xs ++ fields_after []
unfolding fields_after
tabbed-fields [] = refl
tabbed-fields (x ∷ xs) = ap (λ (l : List ℕ). (tab ∷ decimal x) ++ l) (tabbed-fields xs) ∙ sym (append_assoc (tab ∷ decimal x) (tabbed xs) (lf ∷ []))

-- what was scanned
pub record Inputs (n k : ℕ) (bs : List ℕ) (g : Got (List ℕ)) : Type 0 where
  pub fit : AllFit g.value
  pub enough : n ≤ length g.value
  pub no_more : length g.value ≤ n + k
  pub front : bs ≡ tabbed g.value ++ g.rest

-- one input in front
one_more : (n n' k k' : ℕ) (bs cs : List ℕ) (x : ℕ) (h g : Got (List ℕ)) → Fits x → bs ≡ (tab ∷ decimal x) ++ cs → Inputs n k cs h
    → got (x ∷ h.value) h.rest ≡ is g
    → n' ≤ suc n → suc (n + k) ≤ n' + k' → Inputs n' k' bs g
one_more n n' k k' bs cs x h g fit at i e l m =
    let q = is-inj e in
    let v : x ∷ h.value ≡ g.value = ap (λ (r : Got (List ℕ)). r.value) q in
    record {
      fit = rw (sym v) (fit, i.fit);
      enough = rw (sym v) (omega (arith, i.enough));
      no_more = rw (sym v) (omega (arith, i.no_more));
      front =
          at ∙ ap (λ (l : List ℕ). (tab ∷ decimal x) ++ l) i.front ∙ sym (append_assoc (tab ∷ decimal x) (tabbed h.value) h.rest)
          ∙ ap (λ (r : Got (List ℕ)). tabbed r.value ++ r.rest) q;
    }

none_more : (k : ℕ) (bs : List ℕ) (g : Got (List ℕ)) → got [] bs ≡ is g → Inputs 0 k bs g
none_more k bs g e =
    let q = is-inj e in
    let v : [] ≡ g.value = ap (λ (r : Got (List ℕ)). r.value) q in
    record { fit = rw (sym v) tt; enough = omega arith; no_more = rw (sym v) (omega arith); front = ap (λ (r : Got (List ℕ)). tabbed r.value ++ r.rest) q }

more-scanned : (k : ℕ) (bs : List ℕ) (g : Got (List ℕ)) → more_inputs k bs ≡ is g → Inputs 0 k bs g
more-scanned zero bs g e = none_more zero bs g (sym (more-zero bs) ∙ e)
more-scanned (suc k) [] g e = none_more (suc k) [] g (sym (more-nothing k) ∙ e)
more-scanned (suc k) (b ∷ bs) g e = go (more-scanned k) (eqb b tab) refl
  where
    go : ((cs : List ℕ) (h : Got (List ℕ)) → more_inputs k cs ≡ is h → Inputs 0 k cs h) → (t : Bool) → eqb b tab ≡ t → Inputs 0 (suc k) (b ∷ bs) g
    go ih false q = none_more (suc k) (b ∷ bs) g (sym (more-end k b bs q) ∙ e)
    go ih true q =
        let t = then_is (number bs) (λ n cs. then (more_inputs k cs) (λ ns ds. got (n ∷ ns) ds)) (sym (more-step k b bs q) ∙ e) in
        let u = then_is (more_inputs k t.0.rest) (λ ns ds. got (t.0.value ∷ ns) ds) t.2 in
        let r = number-exact.scanned bs t.0 t.1 in
        let at : b ∷ bs ≡ (tab ∷ decimal t.0.value) ++ t.0.rest = ap {B = List ℕ} (λ x. x ∷ bs) (eqb-true b tab q)
        ∙ ap {B = List ℕ} (λ l. tab ∷ l) r.0 in
        one_more 0 0 k (suc k) (b ∷ bs) t.0.rest t.0.value u.0 g r.1 at (ih t.0.rest u.0 u.1) u.2 (omega arith) (omega arith)

pub inputs-scanned : (n k : ℕ) (bs : List ℕ) (g : Got (List ℕ)) → inputs n k bs ≡ is g → Inputs n k bs g
unfolding inputs
inputs-scanned zero k bs g e = more-scanned k bs g e
inputs-scanned (suc n) k bs g e =
    let t = then_is (field number bs) (λ x cs. then (inputs n k cs) (λ xs ds. got (x ∷ xs) ds)) e in
    let u = then_is (inputs n k t.0.rest) (λ xs ds. got (t.0.value ∷ xs) ds) t.2 in
    let r = num-back bs t.0 t.1 in
    one_more n (suc n) k k bs t.0.rest t.0.value u.0 g r.1 r.0 (inputs-scanned n k t.0.rest u.0 u.1) u.2 (omega arith)
    (omega arith)

-- ---- a line
ended-printed : (e : Element) (bs : List ℕ) → ended e (fields_after [] ++ bs) ≡ got e bs
unfolding fields_after exactly
ended-printed e bs = refl

ended-scanned : (e : Element) (bs : List ℕ) (g : Got Element) → ended e bs ≡ is g → (bs ≡ fields_after [] ++ g.rest) × (e ≡ g.value)
unfolding fields_after
ended-scanned e bs g h =
    let t = then_is (the_byte lf bs) (λ _ cs. got e cs) h in
    let q = is-inj t.2 in
    (exactly-scanned (lf ∷ []) bs t.0 t.1 ∙ ap (λ (r : Got Element). lf ∷ r.rest) q, ap (λ (r : Got Element). r.value) q)

element-printed : (e : Element) (bs : List ℕ) → ElementFits e → element (element_text e ++ bs) ≡ got e bs
unfolding element element_text behind_word
element-printed e bs h =
    rw (append_assoc (sort_word e.sort) (fields_after (map decimal (numbers_of e))) bs)
    (rw (sort-printed e.sort (fields_after (map decimal (numbers_of e)) ++ bs))
    (rw (num e.number h.digits.0 (map decimal e.ins) bs)
    (rw (inputs-printed (fewest e.sort) (at_most_more e.sort) e.ins bs h.digits.1 h.enough h.no_more) (ended-printed e bs))))

element-scanned : (bs : List ℕ) (g : Got Element) → element bs ≡ is g → (bs ≡ element_text g.value ++ g.rest) × ElementFits g.value
unfolding element element_text behind_word
element-scanned bs g h =
    let s = then_is (sort_scan bs) behind_word h in
    let w = s.0.value in
    let n = then_is (field number s.0.rest)
    (λ n cs. then (inputs (fewest w) (at_most_more w) cs) (λ xs ds. ended (record { sort = w; number = n; ins = xs }) ds)) s.2 in
    let v = n.0.value in
    let i = then_is (inputs (fewest w) (at_most_more w) n.0.rest) (λ xs ds. ended (record { sort = w; number = v; ins = xs }) ds) n.2 in
    let e : Element = record { sort = w; number = v; ins = i.0.value } in
    let z = ended-scanned e i.0.rest g i.2 in
    let p = num-back s.0.rest n.0 n.1 in
    let x = inputs-scanned (fewest w) (at_most_more w) n.0.rest i.0 i.1 in
    let ended_by : n.0.rest ≡ fields_after (map decimal i.0.value) ++ g.rest =
    x.front ∙ ap (λ (l : List ℕ). tabbed i.0.value ++ l) z.0 ∙ sym (append_assoc (tabbed i.0.value) (fields_after []) g.rest)
    ∙ ap (λ (l : List ℕ). l ++ g.rest) (sym (tabbed-fields i.0.value)) in
    let f = field-before (decimal v) (map decimal i.0.value) g.rest p.0 ended_by in
    rw (sym z.1) (
      sort-scanned bs s.0 s.1 ∙ ap (λ (l : List ℕ). sort_word w ++ l) f
          ∙ sym (append_assoc (sort_word w) (fields_after (map decimal (numbers_of e))) g.rest),
      record { digits = (p.1, x.fit); enough = x.enough; no_more = x.no_more },
    )

pub element-exact : Exact element element_text ElementFits Any
element-exact = record { printed = λ e bs h _. element-printed e bs h; scanned = element-scanned }

-- ---- what is scanned is the line at the front
pub line-exactly : (bs : List ℕ) (e : Element) (cs : List ℕ) → (element bs ≡ got e cs) ↔ LineAt bs e cs
line-exactly bs e cs = (
  λ h. let p = element-exact.scanned bs (record { value = e; rest = cs }) h in record { fits = p.1; printed = p.0 },
  λ l. ap element l.printed ∙ element-exact.printed e cs l.fits tt,
)

pub no_line : (bs cs : List ℕ) → element bs ≡ stops cs → (e : Element) (ds : List ℕ) → LineAt bs e ds → ⊥
no_line bs cs h e ds l = no-is h ((line-exactly bs e ds).1 l)
