-- The promise of `read_tree`, by the ways in which the call goes.
use mathlib.Core.Path.{◌≡◌, refl, sym, ◌∙◌, ap, subst}
use mathlib.Core.Option.{some}
use mathlib.Core.Bool.{true, false, not}
use mathlib.Core.List.{List, ◌++◌}
use Prim.Native.Nat.{ℕ, ◌+◌, ◌*◌, ◌≤◌, ◌<◌}
use native.Mathlib.Omega.{arith}
use lib.ListN.{length, drop}
use lib.Seq.{sets, sets-eq}
use borrow.Author.Tests.{lt-ltb, le-ltb}
use Rattle.laws.specs.Search.{when}
use Rattle.answer.specs.Told.{told, Answer, answered, refused, says_checked, done_of}
use Rattle.answer.specs.declared.Place.TheVariants.{Bytes, Whole}
use Rattle.answer.specs.declared.Refusal.{Refusal}
use Rattle.answer.specs.Told.{Checked}
use Rattle.std.specs.Prelude.{Ok, Err}
use Rattle.answer.proofs.SaysFixes.{checked-fixed}
use Rattle.model.specs.Model.{Model}
use Rattle.layout.specs.Layout.{image_words}
use Rattle.layout.specs.Image.{image_of}
use Rattle.layout.proofs.ReadBack.{length-of-image}
use Rattle.layout.specs.Lent.{word_bytes, table_too_short, table_after}
use Rattle.reading.specs.Read.{room_for}
use Rattle.trees.specs.TreeText.{lines_from, unless}
use Rattle.trees.specs.Modules.{tree_model}
use Rattle.trees.specs.ReadTree.{fitting, limit_told, read_tree_of}
use Rattle.trees.proofs.Faults.{tree-lines}
use Rattle.trees.proofs.Answers.{tree-read-exactly}
use Rattle.trees.proofs.TreeAccepted.{tree-accepted}
use Rattle.treenames.specs.Names.{tree_in, LinesOf}
use Rattle.treetests.specs.Gathering.{proper_of, limited}
use Rattle.treetests.proofs.PassLaws.{read-limited, well-refused, well-fine}
use Rattle.plant.specs.ReadTreeCall.{read_tree_on, ReadTreeCall}

says-fine : says_checked (Ok tt) ≡ some (answered tt)
unfolding says_checked
says-fine = refl

says-too-short : (n : ℕ) → n ≡ image_words * word_bytes → says_checked (Err (record { number = 24; place = Bytes n })) ≡ some (refused table_too_short)
unfolding says_checked told
says-too-short n e = rw e

says-too-large : says_checked (Err (record { number = 48; place = Whole })) ≡ some (refused limit_told)
unfolding says_checked told
says-too-large = refl

short-room : (room : ℕ) (m : Model) → room < image_words → room_for room (answered m) ≡ refused table_too_short
short-room room m h = rw (lt-ltb room image_words h, room_for)

long-room : (room : ℕ) (m : Model) → image_words ≤ room → room_for room (answered m) ≡ answered m
long-room room m h = rw (le-ltb room image_words h, room_for)

module _ (t old : List ℕ) where
  -- what the call says and leaves, from what it answers
  called : (new : List ℕ) (r : Checked) (a : Answer Model) → read_tree_on t old ≡ a → says_checked r ≡ some (done_of a) → new ≡ table_after a old
      → ReadTreeCall t old new r
  called new r a e p q = record { answer = p ∙ ap (λ b. some (done_of b)) (sym e); table = q ∙ ap (λ b. table_after b old) (sym e) }

  -- 2, 4, 6, 5 or 47
  pub no-tree : (f : Refusal) → says_checked (Err f) ≡ some (done_of (proper_of t)) → ReadTreeCall t old old (Err f)
  unfolding read_tree_on
  no-tree f e = go (read_tree_of t) refl (well-refused t f e)
    where
      go : (a : Answer Model) → read_tree_of t ≡ a → says_checked (Err f) ≡ some (done_of a) → ReadTreeCall t old old (Err f)
      go (refused g) h e = called old (Err f) (refused g) (ap (room_for (length old)) h) e refl
      go (answered m) h e =
          let same : Err f ≡ (Ok tt) = checked-fixed (Err f) (Ok tt) (answered tt) e says-fine in
          let z : ◌≡◌ {A = ℕ} 0 1 = cc in absurd (omega arith)

  module _ (good : says_checked (Ok tt) ≡ some (done_of (proper_of t))) where
    pub good-lines : LinesOf t (tree_in t)
    good-lines =
        let d = ((tree-read-exactly t (tree_in t)).0 (well-fine t good).0).0 in
        subst (λ bs. lines_from (length bs) 1 0 bs ≡ answered (tree_in t)) d.bytes (tree-lines (tree_in t) d.drawn)

    limits : read_tree_of t ≡ unless (when (not (fitting (tree_in t))) limit_told) (answered (tree_model (tree_in t)))
    limits = read-limited t ∙ ap limited (well-fine t good).1

    -- the table as the counting walk leaves it
    module _ (mid : List ℕ) (same : mid ≡ old) where
      pub too_large : fitting (tree_in t) ≡ false → ReadTreeCall t old mid (Err (record { number = 48; place = Whole }))
      unfolding read_tree_on
      too_large h =
          let a = limits ∙ ap (λ b. unless (when (not b) limit_told) (answered (tree_model (tree_in t)))) h in
          called mid _ (refused limit_told) (ap (room_for (length old)) a) says-too-large same

      module _ (h : fitting (tree_in t) ≡ true) where
        model : read_tree_of t ≡ answered (tree_model (tree_in t))
        model = limits ∙ ap (λ b. unless (when (not b) limit_told) (answered (tree_model (tree_in t)))) h

        long : length mid ≡ length old
        long = ap (λ (l : List ℕ). length l) same

        pub no_room : (n : ℕ) → n ≡ image_words * word_bytes → length mid < image_words
            → ReadTreeCall t old mid (Err (record { number = 24; place = Bytes n }))
        unfolding read_tree_on
        no_room n p q =
            let k = long in
            let r : length old < image_words = omega (arith, q, k) in
            called mid _ (refused table_too_short) (ap (room_for (length old)) model ∙ short-room (length old) _ r) (says-too-short n p) same

        written : image_words ≤ length old → sets old 0 (image_of (tree_model (tree_in t))) ≡ image_of (tree_model (tree_in t)) ++ drop image_words old
        written q =
            let n = image_of (tree_model (tree_in t)) in
            let e = length-of-image (tree_model (tree_in t)) (tree-accepted t (tree_model (tree_in t)) model).well-formed in
            let end : 0 + length n ≡ image_words = omega (arith, e) in
            sets-eq n old 0 (omega (arith, e, q)) ∙ ap (λ k. n ++ drop k old) end

        pub planted : (new : List ℕ) → image_words ≤ length mid → new ≡ sets mid 0 (image_of (tree_model (tree_in t))) → ReadTreeCall t old new (Ok tt)
        unfolding read_tree_on
        planted new q e =
            let k = long in
            let r : image_words ≤ length old = omega (arith, q, k) in
            called new (Ok tt) (answered (tree_model (tree_in t))) (ap (room_for (length old)) model ∙ long-room (length old) _ r) says-fine
            (e ∙ ap (λ (l : List ℕ). sets l 0 (image_of (tree_model (tree_in t)))) same ∙ written r)
