-- What is answered to a tree's text: stated answers, each refusal on both sides of where it begins, and trees at the edge of the limits.
use Rattle.std.specs.Prelude.{◌≡◌, List, [], ◌∷◌, map, ℕ, length}
use Prim.Native.String.{String}
use Rattle.answer.specs.Told.{Answer, answered, refused}
use Rattle.model.specs.Model.{Model, row_count}
use Rattle.answering.specs.Examples.{bytes_of}
use Rattle.trees.specs.ReadTree.{read_tree_of}

pub data Reply : Type 0 where
  -- a model of so many components and rows
  has-size : ℕ → ℕ → Reply
  refuses-with : ℕ → List ℕ → Reply

abbrev pub reply_by : Answer Model → Reply
reply_by (answered m) = has-size (length m) (row_count m)
reply_by (refused f) = refuses-with f.number f.place

pub record Case : Type 0 where
  pub text : String
  pub answer : Reply

abbrev pub P : String → Reply → Case
P t a = record { text = t; answer = a }

abbrev pub Hold : List Case → Type 0
Hold cs = map (λ c. reply_by (read_tree_of (bytes_of c.text))) cs ≡ map (λ c. c.answer) cs

unfoldable pub tree_cases : List Case
tree_cases =
    P "" (refuses-with 47 (2 ∷ []))
    ∷ P "\n" (refuses-with 2 (1 ∷ 1 ∷ []))
    ∷ P "be\t0" (refuses-with 2 (1 ∷ 5 ∷ []))
    ∷ P "be\t0\n" (has-size 1 12)
    ∷ P "be\t0\t1\n" (refuses-with 2 (1 ∷ 5 ∷ []))
    ∷ P "and\t2\t0\n" (refuses-with 2 (1 ∷ 8 ∷ []))
    ∷ P "and\t2\t0\t1\t3\n" (refuses-with 2 (1 ∷ 10 ∷ []))
    ∷ P "rbox\t1\n" (refuses-with 2 (1 ∷ 7 ∷ []))
    ∷ P "be\t0\nrbox\t1\t0\t0\t0\t0\t0\t0\n" (refuses-with 2 (2 ∷ 17 ∷ []))
    ∷ P "BE\t0\n" (refuses-with 2 (1 ∷ 1 ∷ []))
    ∷ P "sbe\t0\n" (refuses-with 2 (1 ∷ 1 ∷ []))
    ∷ P "rbx\t0\t1\n" (refuses-with 2 (1 ∷ 3 ∷ []))
    ∷ P "pand\t0\t1,2\n" (refuses-with 2 (1 ∷ 9 ∷ []))
    ∷ P "be\t064\n" (refuses-with 2 (1 ∷ 5 ∷ []))
    ∷ P "be\t100000\n" (refuses-with 2 (1 ∷ 9 ∷ []))
    ∷ P "be\t0\r\n" (refuses-with 2 (1 ∷ 5 ∷ []))
    ∷ P "be\t\t0\n" (refuses-with 2 (1 ∷ 4 ∷ []))
    ∷ P "be\t0\t\n" (refuses-with 2 (1 ∷ 5 ∷ []))
    ∷ P "be\t0\n\n" (refuses-with 2 (2 ∷ 1 ∷ []))
    ∷ P "be\t00000\n" (refuses-with 2 (1 ∷ 5 ∷ []))
    ∷ P "be\t64\n" (refuses-with 4 (1 ∷ 4 ∷ []))
    ∷ P "be\t99999\n" (refuses-with 4 (1 ∷ 4 ∷ []))
    ∷ P "be\t0\nand\t64\t70\t0\n" (refuses-with 4 (2 ∷ 5 ∷ []))
    ∷ P "be\t0\nand\t3\t0\t64\n" (refuses-with 4 (2 ∷ 9 ∷ []))
    ∷ P "and\t0\t7\t9\nbe\t64\n" (refuses-with 4 (2 ∷ 4 ∷ []))
    ∷ P "be\t1\nbe\t1\n" (refuses-with 6 (2 ∷ []))
    ∷ P "be\t1\nand\t0\t1\t1\n" (refuses-with 6 (2 ∷ []))
    ∷ P "be\t0\nand\t3\t0\t7\n" (refuses-with 5 (2 ∷ 9 ∷ []))
    ∷ P "rbox\t0\t1\nbe\t2\n" (refuses-with 5 (1 ∷ 8 ∷ []))
    ∷ P "and\t5\t7\t6\nbe\t6\n" (refuses-with 5 (1 ∷ 7 ∷ []))
    ∷ P "and\t0\t0\t0\n" (refuses-with 47 (1 ∷ []))
    ∷ P "and\t5\t5\t6\nbe\t6\n" (refuses-with 47 (1 ∷ []))
    ∷ P "and\t0\t1\t2\nand\t1\t0\t2\nbe\t2\n" (refuses-with 47 (1 ∷ []))
    ∷ P "be\t0\nbe\t1\n" (refuses-with 47 (2 ∷ []))
    ∷ P "be\t0\nrbox\t1\t0\n" (refuses-with 47 (2 ∷ []))
    ∷ P "be\t0\nbe\t1\nand\t2\t0\t0\n" (refuses-with 47 (2 ∷ []))
    ∷ P "be\t0\nbe\t1\nand\t2\t0\t1\nbe\t3\n" (refuses-with 47 (2 ∷ []))
    ∷ P "be\t0\nbe\t1\nand\t2\t0\t1\nrbox\t3\t2\n" (refuses-with 47 (2 ∷ []))
    ∷ P "be\t0\nbe\t1\nand\t2\t0\t1\nrbox\t3\t0\t0\n" (refuses-with 47 (3 ∷ []))
    ∷ P "be\t0\nbe\t1\nrbox\t2\t0\nand\t3\t1\t2\n" (refuses-with 47 (4 ∷ []))
    ∷ P "be\t0\nbe\t1\nrbox\t2\t0\nrbox\t4\t2\n" (refuses-with 47 (4 ∷ []))
    ∷ P "be\t0\nbe\t1\nand\t2\t0\t1\nbe\t3\nor\t4\t3\t2\nrbox\t5\t2\n" (refuses-with 47 (5 ∷ []))
    ∷ P "be\t0\nbe\t1\nand\t2\t0\t1\nrbox\t3\t0\nrbox\t4\t1\t0\n" (refuses-with 47 (6 ∷ []))
    ∷ P "be\t0\nbe\t1\nand\t2\t0\t1\nbe\t3\nrbox\t4\t3\n" (has-size 5 108)
    ∷ []

-- 48: each limit reached, and passed by one element
unfoldable pub limit_cases : List Case
limit_cases =
    P "be\t0\nbe\t1\nbe\t2\nbe\t3\nbe\t4\nbe\t5\nbe\t6\nor\t7\t0\t1\nor\t8\t7\t2\nor\t9\t8\t3\nor\t10\t9\t4\nor\t11\t10\t5\nor\t12\t11\t6\nor\t13\t12\t0\nor\t14\t13\t0\nor\t15\t14\t0\nor\t16\t15\t0\nor\t17\t16\t0\nor\t18\t17\t0\nor\t19\t18\t0\nor\t20\t19\t0\nor\t21\t20\t0\nrbox\t22\t0\t1\t2\n" (has-size 23 1024)
    ∷ P "be\t0\nbe\t1\nor\t2\t0\t1\nor\t3\t2\t0\npand\t4\t3\t0\npand\t5\t4\t0\npand\t6\t5\t0\npand\t7\t6\t0\npand\t8\t7\t0\nrbox\t9\t0\t1\n" (refuses-with 48 (0 ∷ []))
    ∷ P "be\t0\nbe\t1\nbe\t2\nbe\t3\nbe\t4\nbe\t5\nbe\t6\nbe\t7\nbe\t8\nbe\t9\nbe\t10\nor\t11\t0\t1\nor\t12\t11\t2\nor\t13\t12\t3\nor\t14\t13\t4\nor\t15\t14\t5\nor\t16\t15\t6\nor\t17\t16\t7\nor\t18\t17\t8\nor\t19\t18\t9\nor\t20\t19\t10\n" (has-size 21 672)
    ∷ P "be\t0\nbe\t1\nbe\t2\nbe\t3\nbe\t4\nbe\t5\nbe\t6\nbe\t7\nbe\t8\nbe\t9\nbe\t10\nor\t11\t0\t1\nor\t12\t11\t2\nor\t13\t12\t3\nor\t14\t13\t4\nor\t15\t14\t5\nor\t16\t15\t6\nor\t17\t16\t7\nor\t18\t17\t8\nor\t19\t18\t9\nor\t20\t19\t10\nor\t21\t20\t0\n" (refuses-with 48 (0 ∷ []))
    ∷ P "be\t0\nbe\t1\nbe\t2\nbe\t3\nbe\t4\nbe\t5\nbe\t6\nbe\t7\nor\t8\t0\t1\nor\t9\t8\t2\nor\t10\t9\t3\nor\t11\t10\t4\nor\t12\t11\t5\nor\t13\t12\t6\nor\t14\t13\t7\nor\t15\t14\t0\nor\t16\t15\t0\n" (has-size 17 582)
    ∷ P "be\t0\nbe\t1\nbe\t2\nbe\t3\nbe\t4\nand\t5\t0\t1\nand\t6\t5\t2\nand\t7\t6\t3\nand\t8\t7\t4\nrbox\t9\t0\t1\t2\t3\t4\n" (has-size 10 992)
    ∷ P "be\t0\nbe\t1\nbe\t2\nbe\t3\nbe\t4\nand\t5\t0\t1\nand\t6\t5\t2\nand\t7\t6\t3\nand\t8\t7\t4\nand\t9\t8\t0\nrbox\t10\t0\t1\t2\t3\t4\n" (refuses-with 48 (0 ∷ []))
    ∷ P "be\t0\nbe\t1\nor\t2\t0\t1\nor\t3\t2\t0\nor\t4\t3\t0\nor\t5\t4\t0\nor\t6\t5\t0\nor\t7\t6\t0\nor\t8\t7\t0\nor\t9\t8\t0\nor\t10\t9\t0\nor\t11\t10\t0\nor\t12\t11\t0\nor\t13\t12\t0\nor\t14\t13\t0\nor\t15\t14\t0\nor\t16\t15\t0\nor\t17\t16\t0\nor\t18\t17\t0\nor\t19\t18\t0\nor\t20\t19\t0\nor\t21\t20\t0\nor\t22\t21\t0\nor\t23\t22\t0\nor\t24\t23\t0\nor\t25\t24\t0\nor\t26\t25\t0\nor\t27\t26\t0\nor\t28\t27\t0\nor\t29\t28\t0\nor\t30\t29\t0\nor\t31\t30\t0\nor\t32\t31\t0\nor\t33\t32\t0\n" (refuses-with 48 (0 ∷ []))
    ∷ []
