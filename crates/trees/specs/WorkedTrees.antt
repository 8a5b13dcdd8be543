-- The worked trees: the text of a tree, and the text of its model, every row of it. They pin every module for every size (W9 shows that a PAND hears a basic element that is not below it).
use Rattle.std.specs.Prelude.{◌≡◌, List, [], ◌∷◌, map, ℕ}
use Prim.Native.String.{String}
use Rattle.answer.specs.Told.{Answer, answered, refused}
use Rattle.model.specs.Model.{Model}
use Rattle.model.specs.Text.{text_of}
use Rattle.answering.specs.Examples.{bytes_of}
use Rattle.trees.specs.ReadTree.{read_tree_of}

-- the text of the model that is answered; nothing where the tree is refused
abbrev pub text_by : Answer Model → List ℕ
text_by (answered m) = text_of m
text_by (refused f) = []

pub record Worked : Type 0 where
  pub tree : String
  pub model : String

-- each tree's text is answered with the model of that text
abbrev pub Written : Worked → Type 0
Written w = text_by (read_tree_of (bytes_of w.tree)) ≡ bytes_of w.model

unfoldable pub w1 : Worked
w1 = record { tree = "be\t0\nbe\t1\nrbox\t2\t1\n"; model = "comp\t9\t0\nact\t0\tout\nact\t1\tout\nact\t2\tuout\nact\t3\tuout\nclk\t0\t1\nclk\t1\t0\nrow\t0\t0\t0\t-\t4\nrow\t2\t1\t1\t0\t6\nrow\t3\t0\t0\t-\t4\nrow\t3\t-\t2\t-\t0\nrow\t4\t-\t2\t-\t1\nrow\t5\t1\t1\t0\t6\nrow\t5\t-\t2\t-\t2\nrow\t6\t0\t0\t-\t4\nrow\t6\t-\t3\t-\t0\nrow\t7\t-\t3\t-\t1\nrow\t8\t1\t1\t0\t6\nrow\t8\t-\t3\t-\t2\ncomp\t9\t0\nact\t4\tout\nact\t5\tout\nact\t6\tuout\nact\t7\tuout\nact\t8\tuin\nclk\t2\t1\nclk\t3\t0\nrow\t0\t2\t4\t-\t4\nrow\t0\t-\t8\t-\t0\nrow\t1\t-\t8\t3\t2\nrow\t2\t3\t5\t2\t6\nrow\t2\t-\t8\t-\t2\nrow\t3\t2\t4\t-\t4\nrow\t3\t-\t6\t-\t0\nrow\t3\t-\t8\t-\t3\nrow\t4\t-\t6\t-\t1\nrow\t4\t-\t8\t3\t5\nrow\t5\t3\t5\t2\t6\nrow\t5\t-\t6\t-\t2\nrow\t5\t-\t8\t-\t5\nrow\t6\t2\t4\t-\t4\nrow\t6\t-\t7\t-\t0\nrow\t6\t-\t8\t-\t6\nrow\t7\t-\t7\t-\t1\nrow\t7\t-\t8\t3\t8\nrow\t8\t3\t5\t2\t6\nrow\t8\t-\t7\t-\t2\nrow\t8\t-\t8\t-\t8\ncomp\t4\t0\nact\t4\tin\nact\t5\tin\nact\t8\tuout\nrow\t0\t-\t4\t-\t2\nrow\t0\t-\t5\t-\t0\nrow\t1\t-\t4\t-\t3\nrow\t1\t-\t5\t-\t0\nrow\t2\t-\t4\t-\t2\nrow\t2\t-\t5\t-\t0\nrow\t2\t-\t8\t-\t3\nrow\t3\t-\t4\t-\t3\nrow\t3\t-\t5\t-\t0\n" }

unfoldable pub w2 : Worked
w2 = record { tree = "pand\t0\t7\t3\nbe\t3\nbe\t7\n"; model = "comp\t20\t0\nact\t0\tuout\nact\t1\tuout\nact\t2\tin\nact\t3\tin\nact\t4\tuin\nact\t5\tuin\nact\t6\tin\nact\t7\tin\nact\t8\tuin\nact\t9\tuin\nrow\t0\t-\t2\t-\t0\nrow\t0\t-\t3\t-\t0\nrow\t0\t-\t4\t-\t5\nrow\t0\t-\t5\t-\t0\nrow\t0\t-\t6\t-\t0\nrow\t0\t-\t7\t-\t0\nrow\t0\t-\t8\t-\t10\nrow\t0\t-\t9\t-\t0\nrow\t1\t-\t0\t-\t2\nrow\t1\t-\t2\t-\t1\nrow\t1\t-\t3\t-\t1\nrow\t1\t-\t4\t-\t6\nrow\t1\t-\t5\t-\t1\nrow\t1\t-\t6\t-\t1\nrow\t1\t-\t7\t-\t1\nrow\t1\t-\t8\t-\t11\nrow\t1\t-\t9\t-\t1\nrow\t2\t-\t2\t-\t2\nrow\t2\t-\t3\t-\t2\nrow\t2\t-\t4\t-\t7\nrow\t2\t-\t5\t-\t2\nrow\t2\t-\t6\t-\t2\nrow\t2\t-\t7\t-\t2\nrow\t2\t-\t8\t-\t12\nrow\t2\t-\t9\t-\t2\nrow\t3\t-\t1\t-\t0\nrow\t3\t-\t2\t-\t3\nrow\t3\t-\t3\t-\t3\nrow\t3\t-\t4\t-\t7\nrow\t3\t-\t5\t-\t3\nrow\t3\t-\t6\t-\t3\nrow\t3\t-\t7\t-\t3\nrow\t3\t-\t8\t-\t13\nrow\t3\t-\t9\t-\t3\nrow\t4\t-\t2\t-\t4\nrow\t4\t-\t3\t-\t4\nrow\t4\t-\t4\t-\t9\nrow\t4\t-\t5\t-\t4\nrow\t4\t-\t6\t-\t4\nrow\t4\t-\t7\t-\t4\nrow\t4\t-\t8\t-\t14\nrow\t4\t-\t9\t-\t4\nrow\t5\t-\t2\t-\t9\nrow\t5\t-\t3\t-\t9\nrow\t5\t-\t4\t-\t5\nrow\t5\t-\t5\t-\t0\nrow\t5\t-\t6\t-\t9\nrow\t5\t-\t7\t-\t9\nrow\t5\t-\t8\t-\t16\nrow\t5\t-\t9\t-\t5\nrow\t6\t-\t0\t-\t7\nrow\t6\t-\t2\t-\t6\nrow\t6\t-\t3\t-\t6\nrow\t6\t-\t4\t-\t6\nrow\t6\t-\t5\t-\t0\nrow\t6\t-\t6\t-\t6\nrow\t6\t-\t7\t-\t6\nrow\t6\t-\t8\t-\t16\nrow\t6\t-\t9\t-\t6\nrow\t7\t-\t2\t-\t7\nrow\t7\t-\t3\t-\t7\nrow\t7\t-\t4\t-\t7\nrow\t7\t-\t5\t-\t3\nrow\t7\t-\t6\t-\t7\nrow\t7\t-\t7\t-\t7\nrow\t7\t-\t8\t-\t17\nrow\t7\t-\t9\t-\t7\nrow\t8\t-\t1\t-\t5\nrow\t8\t-\t2\t-\t8\nrow\t8\t-\t3\t-\t8\nrow\t8\t-\t4\t-\t8\nrow\t8\t-\t5\t-\t3\nrow\t8\t-\t6\t-\t8\nrow\t8\t-\t7\t-\t8\nrow\t8\t-\t8\t-\t18\nrow\t8\t-\t9\t-\t8\nrow\t9\t-\t2\t-\t9\nrow\t9\t-\t3\t-\t9\nrow\t9\t-\t4\t-\t9\nrow\t9\t-\t5\t-\t0\nrow\t9\t-\t6\t-\t9\nrow\t9\t-\t7\t-\t9\nrow\t9\t-\t8\t-\t19\nrow\t9\t-\t9\t-\t9\nrow\t10\t-\t2\t-\t10\nrow\t10\t-\t3\t-\t10\nrow\t10\t-\t4\t-\t16\nrow\t10\t-\t5\t-\t10\nrow\t10\t-\t6\t-\t10\nrow\t10\t-\t7\t-\t10\nrow\t10\t-\t8\t-\t10\nrow\t10\t-\t9\t-\t0\nrow\t11\t-\t0\t-\t12\nrow\t11\t-\t2\t-\t11\nrow\t11\t-\t3\t-\t11\nrow\t11\t-\t4\t-\t16\nrow\t11\t-\t5\t-\t11\nrow\t11\t-\t6\t-\t11\nrow\t11\t-\t7\t-\t11\nrow\t11\t-\t8\t-\t11\nrow\t11\t-\t9\t-\t0\nrow\t12\t-\t2\t-\t12\nrow\t12\t-\t3\t-\t12\nrow\t12\t-\t4\t-\t17\nrow\t12\t-\t5\t-\t12\nrow\t12\t-\t6\t-\t12\nrow\t12\t-\t7\t-\t12\nrow\t12\t-\t8\t-\t12\nrow\t12\t-\t9\t-\t2\nrow\t13\t-\t1\t-\t10\nrow\t13\t-\t2\t-\t13\nrow\t13\t-\t3\t-\t13\nrow\t13\t-\t4\t-\t17\nrow\t13\t-\t5\t-\t13\nrow\t13\t-\t6\t-\t13\nrow\t13\t-\t7\t-\t13\nrow\t13\t-\t8\t-\t13\nrow\t13\t-\t9\t-\t3\nrow\t14\t-\t2\t-\t14\nrow\t14\t-\t3\t-\t14\nrow\t14\t-\t4\t-\t19\nrow\t14\t-\t5\t-\t14\nrow\t14\t-\t6\t-\t14\nrow\t14\t-\t7\t-\t14\nrow\t14\t-\t8\t-\t14\nrow\t14\t-\t9\t-\t4\nrow\t15\t-\t2\t-\t15\nrow\t15\t-\t3\t-\t15\nrow\t15\t-\t4\t-\t15\nrow\t15\t-\t5\t-\t10\nrow\t15\t-\t6\t-\t15\nrow\t15\t-\t7\t-\t15\nrow\t15\t-\t8\t-\t15\nrow\t15\t-\t9\t-\t5\nrow\t16\t-\t0\t-\t17\nrow\t16\t-\t2\t-\t16\nrow\t16\t-\t3\t-\t16\nrow\t16\t-\t4\t-\t16\nrow\t16\t-\t5\t-\t10\nrow\t16\t-\t6\t-\t16\nrow\t16\t-\t7\t-\t16\nrow\t16\t-\t8\t-\t16\nrow\t16\t-\t9\t-\t5\nrow\t17\t-\t2\t-\t17\nrow\t17\t-\t3\t-\t17\nrow\t17\t-\t4\t-\t17\nrow\t17\t-\t5\t-\t13\nrow\t17\t-\t6\t-\t17\nrow\t17\t-\t7\t-\t17\nrow\t17\t-\t8\t-\t17\nrow\t17\t-\t9\t-\t7\nrow\t18\t-\t1\t-\t15\nrow\t18\t-\t2\t-\t18\nrow\t18\t-\t3\t-\t18\nrow\t18\t-\t4\t-\t18\nrow\t18\t-\t5\t-\t13\nrow\t18\t-\t6\t-\t18\nrow\t18\t-\t7\t-\t18\nrow\t18\t-\t8\t-\t18\nrow\t18\t-\t9\t-\t8\nrow\t19\t-\t2\t-\t19\nrow\t19\t-\t3\t-\t19\nrow\t19\t-\t4\t-\t19\nrow\t19\t-\t5\t-\t10\nrow\t19\t-\t6\t-\t19\nrow\t19\t-\t7\t-\t19\nrow\t19\t-\t8\t-\t19\nrow\t19\t-\t9\t-\t9\ncomp\t9\t0\nact\t2\tout\nact\t3\tout\nact\t4\tuout\nact\t5\tuout\nclk\t0\t1\nclk\t1\t0\nrow\t0\t0\t2\t-\t4\nrow\t2\t1\t3\t0\t6\nrow\t3\t0\t2\t-\t4\nrow\t3\t-\t4\t-\t0\nrow\t4\t-\t4\t-\t1\nrow\t5\t1\t3\t0\t6\nrow\t5\t-\t4\t-\t2\nrow\t6\t0\t2\t-\t4\nrow\t6\t-\t5\t-\t0\nrow\t7\t-\t5\t-\t1\nrow\t8\t1\t3\t0\t6\nrow\t8\t-\t5\t-\t2\ncomp\t9\t0\nact\t6\tout\nact\t7\tout\nact\t8\tuout\nact\t9\tuout\nclk\t2\t1\nclk\t3\t0\nrow\t0\t2\t6\t-\t4\nrow\t2\t3\t7\t2\t6\nrow\t3\t2\t6\t-\t4\nrow\t3\t-\t8\t-\t0\nrow\t4\t-\t8\t-\t1\nrow\t5\t3\t7\t2\t6\nrow\t5\t-\t8\t-\t2\nrow\t6\t2\t6\t-\t4\nrow\t6\t-\t9\t-\t0\nrow\t7\t-\t9\t-\t1\nrow\t8\t3\t7\t2\t6\nrow\t8\t-\t9\t-\t2\n" }

unfoldable pub w3 : Worked
w3 = record { tree = "or\t0\t2\t5\nbe\t2\nand\t4\t5\t2\nbe\t5\nor\t8\t0\t4\nrbox\t9\t5\t2\n"; model = "comp\t12\t0\nact\t0\tuout\nact\t1\tuout\nact\t4\tuin\nact\t5\tuin\nact\t11\tuin\nact\t12\tuin\nrow\t0\t-\t4\t-\t7\nrow\t0\t-\t5\t-\t0\nrow\t0\t-\t11\t-\t7\nrow\t0\t-\t12\t-\t0\nrow\t1\t-\t4\t-\t2\nrow\t1\t-\t5\t-\t3\nrow\t1\t-\t11\t-\t2\nrow\t1\t-\t12\t-\t3\nrow\t2\t-\t4\t-\t2\nrow\t2\t-\t5\t-\t1\nrow\t2\t-\t11\t-\t2\nrow\t2\t-\t12\t-\t1\nrow\t3\t-\t1\t-\t0\nrow\t3\t-\t4\t-\t10\nrow\t3\t-\t5\t-\t3\nrow\t3\t-\t11\t-\t10\nrow\t3\t-\t12\t-\t3\nrow\t4\t-\t4\t-\t5\nrow\t4\t-\t5\t-\t3\nrow\t4\t-\t11\t-\t5\nrow\t4\t-\t12\t-\t3\nrow\t5\t-\t4\t-\t5\nrow\t5\t-\t5\t-\t4\nrow\t5\t-\t11\t-\t5\nrow\t5\t-\t12\t-\t4\nrow\t6\t-\t4\t-\t7\nrow\t6\t-\t5\t-\t6\nrow\t6\t-\t11\t-\t7\nrow\t6\t-\t12\t-\t6\nrow\t7\t-\t0\t-\t1\nrow\t7\t-\t4\t-\t8\nrow\t7\t-\t5\t-\t9\nrow\t7\t-\t11\t-\t8\nrow\t7\t-\t12\t-\t9\nrow\t8\t-\t0\t-\t2\nrow\t8\t-\t4\t-\t8\nrow\t8\t-\t5\t-\t7\nrow\t8\t-\t11\t-\t8\nrow\t8\t-\t12\t-\t7\nrow\t9\t-\t1\t-\t6\nrow\t9\t-\t4\t-\t10\nrow\t9\t-\t5\t-\t9\nrow\t9\t-\t11\t-\t10\nrow\t9\t-\t12\t-\t9\nrow\t10\t-\t0\t-\t4\nrow\t10\t-\t4\t-\t11\nrow\t10\t-\t5\t-\t9\nrow\t10\t-\t11\t-\t11\nrow\t10\t-\t12\t-\t9\nrow\t11\t-\t0\t-\t5\nrow\t11\t-\t4\t-\t11\nrow\t11\t-\t5\t-\t10\nrow\t11\t-\t11\t-\t11\nrow\t11\t-\t12\t-\t10\ncomp\t9\t0\nact\t2\tout\nact\t3\tout\nact\t4\tuout\nact\t5\tuout\nact\t6\tuin\nclk\t0\t1\nclk\t1\t0\nrow\t0\t0\t2\t-\t4\nrow\t0\t-\t6\t-\t0\nrow\t1\t-\t6\t1\t2\nrow\t2\t1\t3\t0\t6\nrow\t2\t-\t6\t-\t2\nrow\t3\t0\t2\t-\t4\nrow\t3\t-\t4\t-\t0\nrow\t3\t-\t6\t-\t3\nrow\t4\t-\t4\t-\t1\nrow\t4\t-\t6\t1\t5\nrow\t5\t1\t3\t0\t6\nrow\t5\t-\t4\t-\t2\nrow\t5\t-\t6\t-\t5\nrow\t6\t0\t2\t-\t4\nrow\t6\t-\t5\t-\t0\nrow\t6\t-\t6\t-\t6\nrow\t7\t-\t5\t-\t1\nrow\t7\t-\t6\t1\t8\nrow\t8\t1\t3\t0\t6\nrow\t8\t-\t5\t-\t2\nrow\t8\t-\t6\t-\t8\ncomp\t12\t0\nact\t4\tuin\nact\t5\tuin\nact\t7\tuout\nact\t8\tuout\nact\t11\tuin\nact\t12\tuin\nrow\t0\t-\t4\t-\t1\nrow\t0\t-\t5\t-\t0\nrow\t0\t-\t11\t-\t1\nrow\t0\t-\t12\t-\t0\nrow\t1\t-\t4\t-\t8\nrow\t1\t-\t5\t-\t0\nrow\t1\t-\t11\t-\t8\nrow\t1\t-\t12\t-\t0\nrow\t2\t-\t4\t-\t2\nrow\t2\t-\t5\t-\t4\nrow\t2\t-\t11\t-\t2\nrow\t2\t-\t12\t-\t4\nrow\t3\t-\t4\t-\t4\nrow\t3\t-\t5\t-\t3\nrow\t3\t-\t8\t-\t0\nrow\t3\t-\t11\t-\t4\nrow\t3\t-\t12\t-\t3\nrow\t4\t-\t4\t-\t11\nrow\t4\t-\t5\t-\t3\nrow\t4\t-\t8\t-\t1\nrow\t4\t-\t11\t-\t11\nrow\t4\t-\t12\t-\t3\nrow\t5\t-\t4\t-\t5\nrow\t5\t-\t5\t-\t4\nrow\t5\t-\t11\t-\t5\nrow\t5\t-\t12\t-\t4\nrow\t6\t-\t4\t-\t7\nrow\t6\t-\t5\t-\t6\nrow\t6\t-\t11\t-\t7\nrow\t6\t-\t12\t-\t6\nrow\t7\t-\t4\t-\t8\nrow\t7\t-\t5\t-\t6\nrow\t7\t-\t11\t-\t8\nrow\t7\t-\t12\t-\t6\nrow\t8\t-\t4\t-\t8\nrow\t8\t-\t5\t-\t10\nrow\t8\t-\t7\t-\t2\nrow\t8\t-\t11\t-\t8\nrow\t8\t-\t12\t-\t10\nrow\t9\t-\t4\t-\t10\nrow\t9\t-\t5\t-\t9\nrow\t9\t-\t8\t-\t6\nrow\t9\t-\t11\t-\t10\nrow\t9\t-\t12\t-\t9\nrow\t10\t-\t4\t-\t11\nrow\t10\t-\t5\t-\t9\nrow\t10\t-\t8\t-\t7\nrow\t10\t-\t11\t-\t11\nrow\t10\t-\t12\t-\t9\nrow\t11\t-\t4\t-\t11\nrow\t11\t-\t5\t-\t10\nrow\t11\t-\t7\t-\t5\nrow\t11\t-\t11\t-\t11\nrow\t11\t-\t12\t-\t10\ncomp\t9\t0\nact\t9\tout\nact\t10\tout\nact\t11\tuout\nact\t12\tuout\nact\t13\tuin\nclk\t2\t1\nclk\t3\t0\nrow\t0\t2\t9\t-\t4\nrow\t0\t-\t13\t-\t0\nrow\t1\t-\t13\t3\t2\nrow\t2\t3\t10\t2\t6\nrow\t2\t-\t13\t-\t2\nrow\t3\t2\t9\t-\t4\nrow\t3\t-\t11\t-\t0\nrow\t3\t-\t13\t-\t3\nrow\t4\t-\t11\t-\t1\nrow\t4\t-\t13\t3\t5\nrow\t5\t3\t10\t2\t6\nrow\t5\t-\t11\t-\t2\nrow\t5\t-\t13\t-\t5\nrow\t6\t2\t9\t-\t4\nrow\t6\t-\t12\t-\t0\nrow\t6\t-\t13\t-\t6\nrow\t7\t-\t12\t-\t1\nrow\t7\t-\t13\t3\t8\nrow\t8\t3\t10\t2\t6\nrow\t8\t-\t12\t-\t2\nrow\t8\t-\t13\t-\t8\ncomp\t12\t0\nact\t0\tuin\nact\t1\tuin\nact\t7\tuin\nact\t8\tuin\nact\t14\tuout\nact\t15\tuout\nrow\t0\t-\t0\t-\t7\nrow\t0\t-\t1\t-\t0\nrow\t0\t-\t7\t-\t7\nrow\t0\t-\t8\t-\t0\nrow\t1\t-\t0\t-\t2\nrow\t1\t-\t1\t-\t3\nrow\t1\t-\t7\t-\t2\nrow\t1\t-\t8\t-\t3\nrow\t2\t-\t0\t-\t2\nrow\t2\t-\t1\t-\t1\nrow\t2\t-\t7\t-\t2\nrow\t2\t-\t8\t-\t1\nrow\t3\t-\t0\t-\t10\nrow\t3\t-\t1\t-\t3\nrow\t3\t-\t7\t-\t10\nrow\t3\t-\t8\t-\t3\nrow\t3\t-\t15\t-\t0\nrow\t4\t-\t0\t-\t5\nrow\t4\t-\t1\t-\t3\nrow\t4\t-\t7\t-\t5\nrow\t4\t-\t8\t-\t3\nrow\t5\t-\t0\t-\t5\nrow\t5\t-\t1\t-\t4\nrow\t5\t-\t7\t-\t5\nrow\t5\t-\t8\t-\t4\nrow\t6\t-\t0\t-\t7\nrow\t6\t-\t1\t-\t6\nrow\t6\t-\t7\t-\t7\nrow\t6\t-\t8\t-\t6\nrow\t7\t-\t0\t-\t8\nrow\t7\t-\t1\t-\t9\nrow\t7\t-\t7\t-\t8\nrow\t7\t-\t8\t-\t9\nrow\t7\t-\t14\t-\t1\nrow\t8\t-\t0\t-\t8\nrow\t8\t-\t1\t-\t7\nrow\t8\t-\t7\t-\t8\nrow\t8\t-\t8\t-\t7\nrow\t8\t-\t14\t-\t2\nrow\t9\t-\t0\t-\t10\nrow\t9\t-\t1\t-\t9\nrow\t9\t-\t7\t-\t10\nrow\t9\t-\t8\t-\t9\nrow\t9\t-\t15\t-\t6\nrow\t10\t-\t0\t-\t11\nrow\t10\t-\t1\t-\t9\nrow\t10\t-\t7\t-\t11\nrow\t10\t-\t8\t-\t9\nrow\t10\t-\t14\t-\t4\nrow\t11\t-\t0\t-\t11\nrow\t11\t-\t1\t-\t10\nrow\t11\t-\t7\t-\t11\nrow\t11\t-\t8\t-\t10\nrow\t11\t-\t14\t-\t5\ncomp\t8\t0\nact\t2\tin\nact\t3\tin\nact\t6\tuout\nact\t9\tin\nact\t10\tin\nact\t13\tuout\nrow\t0\t-\t2\t-\t2\nrow\t0\t-\t3\t-\t0\nrow\t0\t-\t9\t-\t4\nrow\t0\t-\t10\t-\t0\nrow\t1\t-\t2\t-\t3\nrow\t1\t-\t3\t-\t0\nrow\t1\t-\t9\t-\t5\nrow\t1\t-\t10\t-\t0\nrow\t2\t-\t2\t-\t2\nrow\t2\t-\t3\t-\t0\nrow\t2\t-\t6\t-\t3\nrow\t2\t-\t9\t-\t6\nrow\t2\t-\t10\t-\t2\nrow\t3\t-\t2\t-\t3\nrow\t3\t-\t3\t-\t0\nrow\t3\t-\t9\t-\t7\nrow\t3\t-\t10\t-\t2\nrow\t4\t-\t2\t-\t6\nrow\t4\t-\t3\t-\t4\nrow\t4\t-\t9\t-\t4\nrow\t4\t-\t10\t-\t0\nrow\t4\t-\t13\t-\t5\nrow\t5\t-\t2\t-\t7\nrow\t5\t-\t3\t-\t4\nrow\t5\t-\t9\t-\t5\nrow\t5\t-\t10\t-\t0\nrow\t6\t-\t2\t-\t6\nrow\t6\t-\t3\t-\t4\nrow\t6\t-\t9\t-\t6\nrow\t6\t-\t10\t-\t2\nrow\t6\t-\t13\t-\t7\nrow\t7\t-\t2\t-\t7\nrow\t7\t-\t3\t-\t4\nrow\t7\t-\t9\t-\t7\nrow\t7\t-\t10\t-\t2\n" }

unfoldable pub w4 : Worked
w4 = record { tree = "be\t1\nbe\t2\nbe\t3\nbe\t4\nbe\t5\nand\t6\t1\t2\nrbox\t7\t3\t1\t5\t4\t2\n"; model = "comp\t9\t0\nact\t0\tout\nact\t1\tout\nact\t2\tuout\nact\t3\tuout\nact\t4\tuin\nclk\t0\t1\nclk\t1\t0\nrow\t0\t0\t0\t-\t4\nrow\t0\t-\t4\t-\t0\nrow\t1\t-\t4\t1\t2\nrow\t2\t1\t1\t0\t6\nrow\t2\t-\t4\t-\t2\nrow\t3\t0\t0\t-\t4\nrow\t3\t-\t2\t-\t0\nrow\t3\t-\t4\t-\t3\nrow\t4\t-\t2\t-\t1\nrow\t4\t-\t4\t1\t5\nrow\t5\t1\t1\t0\t6\nrow\t5\t-\t2\t-\t2\nrow\t5\t-\t4\t-\t5\nrow\t6\t0\t0\t-\t4\nrow\t6\t-\t3\t-\t0\nrow\t6\t-\t4\t-\t6\nrow\t7\t-\t3\t-\t1\nrow\t7\t-\t4\t1\t8\nrow\t8\t1\t1\t0\t6\nrow\t8\t-\t3\t-\t2\nrow\t8\t-\t4\t-\t8\ncomp\t9\t0\nact\t5\tout\nact\t6\tout\nact\t7\tuout\nact\t8\tuout\nact\t9\tuin\nclk\t2\t1\nclk\t3\t0\nrow\t0\t2\t5\t-\t4\nrow\t0\t-\t9\t-\t0\nrow\t1\t-\t9\t3\t2\nrow\t2\t3\t6\t2\t6\nrow\t2\t-\t9\t-\t2\nrow\t3\t2\t5\t-\t4\nrow\t3\t-\t7\t-\t0\nrow\t3\t-\t9\t-\t3\nrow\t4\t-\t7\t-\t1\nrow\t4\t-\t9\t3\t5\nrow\t5\t3\t6\t2\t6\nrow\t5\t-\t7\t-\t2\nrow\t5\t-\t9\t-\t5\nrow\t6\t2\t5\t-\t4\nrow\t6\t-\t8\t-\t0\nrow\t6\t-\t9\t-\t6\nrow\t7\t-\t8\t-\t1\nrow\t7\t-\t9\t3\t8\nrow\t8\t3\t6\t2\t6\nrow\t8\t-\t8\t-\t2\nrow\t8\t-\t9\t-\t8\ncomp\t9\t0\nact\t10\tout\nact\t11\tout\nact\t12\tuout\nact\t13\tuout\nact\t14\tuin\nclk\t4\t1\nclk\t5\t0\nrow\t0\t4\t10\t-\t4\nrow\t0\t-\t14\t-\t0\nrow\t1\t-\t14\t5\t2\nrow\t2\t5\t11\t4\t6\nrow\t2\t-\t14\t-\t2\nrow\t3\t4\t10\t-\t4\nrow\t3\t-\t12\t-\t0\nrow\t3\t-\t14\t-\t3\nrow\t4\t-\t12\t-\t1\nrow\t4\t-\t14\t5\t5\nrow\t5\t5\t11\t4\t6\nrow\t5\t-\t12\t-\t2\nrow\t5\t-\t14\t-\t5\nrow\t6\t4\t10\t-\t4\nrow\t6\t-\t13\t-\t0\nrow\t6\t-\t14\t-\t6\nrow\t7\t-\t13\t-\t1\nrow\t7\t-\t14\t5\t8\nrow\t8\t5\t11\t4\t6\nrow\t8\t-\t13\t-\t2\nrow\t8\t-\t14\t-\t8\ncomp\t9\t0\nact\t15\tout\nact\t16\tout\nact\t17\tuout\nact\t18\tuout\nact\t19\tuin\nclk\t6\t1\nclk\t7\t0\nrow\t0\t6\t15\t-\t4\nrow\t0\t-\t19\t-\t0\nrow\t1\t-\t19\t7\t2\nrow\t2\t7\t16\t6\t6\nrow\t2\t-\t19\t-\t2\nrow\t3\t6\t15\t-\t4\nrow\t3\t-\t17\t-\t0\nrow\t3\t-\t19\t-\t3\nrow\t4\t-\t17\t-\t1\nrow\t4\t-\t19\t7\t5\nrow\t5\t7\t16\t6\t6\nrow\t5\t-\t17\t-\t2\nrow\t5\t-\t19\t-\t5\nrow\t6\t6\t15\t-\t4\nrow\t6\t-\t18\t-\t0\nrow\t6\t-\t19\t-\t6\nrow\t7\t-\t18\t-\t1\nrow\t7\t-\t19\t7\t8\nrow\t8\t7\t16\t6\t6\nrow\t8\t-\t18\t-\t2\nrow\t8\t-\t19\t-\t8\ncomp\t9\t0\nact\t20\tout\nact\t21\tout\nact\t22\tuout\nact\t23\tuout\nact\t24\tuin\nclk\t8\t1\nclk\t9\t0\nrow\t0\t8\t20\t-\t4\nrow\t0\t-\t24\t-\t0\nrow\t1\t-\t24\t9\t2\nrow\t2\t9\t21\t8\t6\nrow\t2\t-\t24\t-\t2\nrow\t3\t8\t20\t-\t4\nrow\t3\t-\t22\t-\t0\nrow\t3\t-\t24\t-\t3\nrow\t4\t-\t22\t-\t1\nrow\t4\t-\t24\t9\t5\nrow\t5\t9\t21\t8\t6\nrow\t5\t-\t22\t-\t2\nrow\t5\t-\t24\t-\t5\nrow\t6\t8\t20\t-\t4\nrow\t6\t-\t23\t-\t0\nrow\t6\t-\t24\t-\t6\nrow\t7\t-\t23\t-\t1\nrow\t7\t-\t24\t9\t8\nrow\t8\t9\t21\t8\t6\nrow\t8\t-\t23\t-\t2\nrow\t8\t-\t24\t-\t8\ncomp\t12\t0\nact\t2\tuin\nact\t3\tuin\nact\t7\tuin\nact\t8\tuin\nact\t25\tuout\nact\t26\tuout\nrow\t0\t-\t2\t-\t1\nrow\t0\t-\t3\t-\t0\nrow\t0\t-\t7\t-\t1\nrow\t0\t-\t8\t-\t0\nrow\t1\t-\t2\t-\t8\nrow\t1\t-\t3\t-\t0\nrow\t1\t-\t7\t-\t8\nrow\t1\t-\t8\t-\t0\nrow\t2\t-\t2\t-\t2\nrow\t2\t-\t3\t-\t4\nrow\t2\t-\t7\t-\t2\nrow\t2\t-\t8\t-\t4\nrow\t3\t-\t2\t-\t4\nrow\t3\t-\t3\t-\t3\nrow\t3\t-\t7\t-\t4\nrow\t3\t-\t8\t-\t3\nrow\t3\t-\t26\t-\t0\nrow\t4\t-\t2\t-\t11\nrow\t4\t-\t3\t-\t3\nrow\t4\t-\t7\t-\t11\nrow\t4\t-\t8\t-\t3\nrow\t4\t-\t26\t-\t1\nrow\t5\t-\t2\t-\t5\nrow\t5\t-\t3\t-\t4\nrow\t5\t-\t7\t-\t5\nrow\t5\t-\t8\t-\t4\nrow\t6\t-\t2\t-\t7\nrow\t6\t-\t3\t-\t6\nrow\t6\t-\t7\t-\t7\nrow\t6\t-\t8\t-\t6\nrow\t7\t-\t2\t-\t8\nrow\t7\t-\t3\t-\t6\nrow\t7\t-\t7\t-\t8\nrow\t7\t-\t8\t-\t6\nrow\t8\t-\t2\t-\t8\nrow\t8\t-\t3\t-\t10\nrow\t8\t-\t7\t-\t8\nrow\t8\t-\t8\t-\t10\nrow\t8\t-\t25\t-\t2\nrow\t9\t-\t2\t-\t10\nrow\t9\t-\t3\t-\t9\nrow\t9\t-\t7\t-\t10\nrow\t9\t-\t8\t-\t9\nrow\t9\t-\t26\t-\t6\nrow\t10\t-\t2\t-\t11\nrow\t10\t-\t3\t-\t9\nrow\t10\t-\t7\t-\t11\nrow\t10\t-\t8\t-\t9\nrow\t10\t-\t26\t-\t7\nrow\t11\t-\t2\t-\t11\nrow\t11\t-\t3\t-\t10\nrow\t11\t-\t7\t-\t11\nrow\t11\t-\t8\t-\t10\nrow\t11\t-\t25\t-\t5\ncomp\t64\t0\nact\t0\tin\nact\t1\tin\nact\t4\tuout\nact\t5\tin\nact\t6\tin\nact\t9\tuout\nact\t10\tin\nact\t11\tin\nact\t14\tuout\nact\t15\tin\nact\t16\tin\nact\t19\tuout\nact\t20\tin\nact\t21\tin\nact\t24\tuout\nrow\t0\t-\t0\t-\t16\nrow\t0\t-\t1\t-\t0\nrow\t0\t-\t5\t-\t2\nrow\t0\t-\t6\t-\t0\nrow\t0\t-\t10\t-\t32\nrow\t0\t-\t11\t-\t0\nrow\t0\t-\t15\t-\t4\nrow\t0\t-\t16\t-\t0\nrow\t0\t-\t20\t-\t8\nrow\t0\t-\t21\t-\t0\nrow\t1\t-\t0\t-\t17\nrow\t1\t-\t1\t-\t0\nrow\t1\t-\t5\t-\t3\nrow\t1\t-\t6\t-\t0\nrow\t1\t-\t10\t-\t33\nrow\t1\t-\t11\t-\t0\nrow\t1\t-\t15\t-\t5\nrow\t1\t-\t16\t-\t0\nrow\t1\t-\t20\t-\t9\nrow\t1\t-\t21\t-\t0\nrow\t2\t-\t0\t-\t18\nrow\t2\t-\t1\t-\t2\nrow\t2\t-\t5\t-\t2\nrow\t2\t-\t6\t-\t0\nrow\t2\t-\t9\t-\t3\nrow\t2\t-\t10\t-\t34\nrow\t2\t-\t11\t-\t2\nrow\t2\t-\t15\t-\t6\nrow\t2\t-\t16\t-\t2\nrow\t2\t-\t20\t-\t10\nrow\t2\t-\t21\t-\t2\nrow\t3\t-\t0\t-\t19\nrow\t3\t-\t1\t-\t2\nrow\t3\t-\t5\t-\t3\nrow\t3\t-\t6\t-\t0\nrow\t3\t-\t10\t-\t35\nrow\t3\t-\t11\t-\t2\nrow\t3\t-\t15\t-\t7\nrow\t3\t-\t16\t-\t2\nrow\t3\t-\t20\t-\t11\nrow\t3\t-\t21\t-\t2\nrow\t4\t-\t0\t-\t20\nrow\t4\t-\t1\t-\t4\nrow\t4\t-\t5\t-\t6\nrow\t4\t-\t6\t-\t4\nrow\t4\t-\t10\t-\t36\nrow\t4\t-\t11\t-\t4\nrow\t4\t-\t15\t-\t4\nrow\t4\t-\t16\t-\t0\nrow\t4\t-\t19\t-\t5\nrow\t4\t-\t20\t-\t12\nrow\t4\t-\t21\t-\t4\nrow\t5\t-\t0\t-\t21\nrow\t5\t-\t1\t-\t4\nrow\t5\t-\t5\t-\t7\nrow\t5\t-\t6\t-\t4\nrow\t5\t-\t10\t-\t37\nrow\t5\t-\t11\t-\t4\nrow\t5\t-\t15\t-\t5\nrow\t5\t-\t16\t-\t0\nrow\t5\t-\t20\t-\t13\nrow\t5\t-\t21\t-\t4\nrow\t6\t-\t0\t-\t22\nrow\t6\t-\t1\t-\t6\nrow\t6\t-\t5\t-\t6\nrow\t6\t-\t6\t-\t4\nrow\t6\t-\t10\t-\t38\nrow\t6\t-\t11\t-\t6\nrow\t6\t-\t15\t-\t6\nrow\t6\t-\t16\t-\t2\nrow\t6\t-\t19\t-\t7\nrow\t6\t-\t20\t-\t14\nrow\t6\t-\t21\t-\t6\nrow\t7\t-\t0\t-\t23\nrow\t7\t-\t1\t-\t6\nrow\t7\t-\t5\t-\t7\nrow\t7\t-\t6\t-\t4\nrow\t7\t-\t10\t-\t39\nrow\t7\t-\t11\t-\t6\nrow\t7\t-\t15\t-\t7\nrow\t7\t-\t16\t-\t2\nrow\t7\t-\t20\t-\t15\nrow\t7\t-\t21\t-\t6\nrow\t8\t-\t0\t-\t24\nrow\t8\t-\t1\t-\t8\nrow\t8\t-\t5\t-\t10\nrow\t8\t-\t6\t-\t8\nrow\t8\t-\t10\t-\t40\nrow\t8\t-\t11\t-\t8\nrow\t8\t-\t15\t-\t12\nrow\t8\t-\t16\t-\t8\nrow\t8\t-\t20\t-\t8\nrow\t8\t-\t21\t-\t0\nrow\t8\t-\t24\t-\t9\nrow\t9\t-\t0\t-\t25\nrow\t9\t-\t1\t-\t8\nrow\t9\t-\t5\t-\t11\nrow\t9\t-\t6\t-\t8\nrow\t9\t-\t10\t-\t41\nrow\t9\t-\t11\t-\t8\nrow\t9\t-\t15\t-\t13\nrow\t9\t-\t16\t-\t8\nrow\t9\t-\t20\t-\t9\nrow\t9\t-\t21\t-\t0\nrow\t10\t-\t0\t-\t26\nrow\t10\t-\t1\t-\t10\nrow\t10\t-\t5\t-\t10\nrow\t10\t-\t6\t-\t8\nrow\t10\t-\t10\t-\t42\nrow\t10\t-\t11\t-\t10\nrow\t10\t-\t15\t-\t14\nrow\t10\t-\t16\t-\t10\nrow\t10\t-\t20\t-\t10\nrow\t10\t-\t21\t-\t2\nrow\t10\t-\t24\t-\t11\nrow\t11\t-\t0\t-\t27\nrow\t11\t-\t1\t-\t10\nrow\t11\t-\t5\t-\t11\nrow\t11\t-\t6\t-\t8\nrow\t11\t-\t10\t-\t43\nrow\t11\t-\t11\t-\t10\nrow\t11\t-\t15\t-\t15\nrow\t11\t-\t16\t-\t10\nrow\t11\t-\t20\t-\t11\nrow\t11\t-\t21\t-\t2\nrow\t12\t-\t0\t-\t28\nrow\t12\t-\t1\t-\t12\nrow\t12\t-\t5\t-\t14\nrow\t12\t-\t6\t-\t12\nrow\t12\t-\t10\t-\t44\nrow\t12\t-\t11\t-\t12\nrow\t12\t-\t15\t-\t12\nrow\t12\t-\t16\t-\t8\nrow\t12\t-\t20\t-\t12\nrow\t12\t-\t21\t-\t4\nrow\t12\t-\t24\t-\t13\nrow\t13\t-\t0\t-\t29\nrow\t13\t-\t1\t-\t12\nrow\t13\t-\t5\t-\t15\nrow\t13\t-\t6\t-\t12\nrow\t13\t-\t10\t-\t45\nrow\t13\t-\t11\t-\t12\nrow\t13\t-\t15\t-\t13\nrow\t13\t-\t16\t-\t8\nrow\t13\t-\t20\t-\t13\nrow\t13\t-\t21\t-\t4\nrow\t14\t-\t0\t-\t30\nrow\t14\t-\t1\t-\t14\nrow\t14\t-\t5\t-\t14\nrow\t14\t-\t6\t-\t12\nrow\t14\t-\t10\t-\t46\nrow\t14\t-\t11\t-\t14\nrow\t14\t-\t15\t-\t14\nrow\t14\t-\t16\t-\t10\nrow\t14\t-\t20\t-\t14\nrow\t14\t-\t21\t-\t6\nrow\t14\t-\t24\t-\t15\nrow\t15\t-\t0\t-\t31\nrow\t15\t-\t1\t-\t14\nrow\t15\t-\t5\t-\t15\nrow\t15\t-\t6\t-\t12\nrow\t15\t-\t10\t-\t47\nrow\t15\t-\t11\t-\t14\nrow\t15\t-\t15\t-\t15\nrow\t15\t-\t16\t-\t10\nrow\t15\t-\t20\t-\t15\nrow\t15\t-\t21\t-\t6\nrow\t16\t-\t0\t-\t16\nrow\t16\t-\t1\t-\t0\nrow\t16\t-\t4\t-\t17\nrow\t16\t-\t5\t-\t18\nrow\t16\t-\t6\t-\t16\nrow\t16\t-\t10\t-\t48\nrow\t16\t-\t11\t-\t16\nrow\t16\t-\t15\t-\t20\nrow\t16\t-\t16\t-\t16\nrow\t16\t-\t20\t-\t24\nrow\t16\t-\t21\t-\t16\nrow\t17\t-\t0\t-\t17\nrow\t17\t-\t1\t-\t0\nrow\t17\t-\t5\t-\t19\nrow\t17\t-\t6\t-\t16\nrow\t17\t-\t10\t-\t49\nrow\t17\t-\t11\t-\t16\nrow\t17\t-\t15\t-\t21\nrow\t17\t-\t16\t-\t16\nrow\t17\t-\t20\t-\t25\nrow\t17\t-\t21\t-\t16\nrow\t18\t-\t0\t-\t18\nrow\t18\t-\t1\t-\t2\nrow\t18\t-\t4\t-\t19\nrow\t18\t-\t5\t-\t18\nrow\t18\t-\t6\t-\t16\nrow\t18\t-\t10\t-\t50\nrow\t18\t-\t11\t-\t18\nrow\t18\t-\t15\t-\t22\nrow\t18\t-\t16\t-\t18\nrow\t18\t-\t20\t-\t26\nrow\t18\t-\t21\t-\t18\nrow\t19\t-\t0\t-\t19\nrow\t19\t-\t1\t-\t2\nrow\t19\t-\t5\t-\t19\nrow\t19\t-\t6\t-\t16\nrow\t19\t-\t10\t-\t51\nrow\t19\t-\t11\t-\t18\nrow\t19\t-\t15\t-\t23\nrow\t19\t-\t16\t-\t18\nrow\t19\t-\t20\t-\t27\nrow\t19\t-\t21\t-\t18\nrow\t20\t-\t0\t-\t20\nrow\t20\t-\t1\t-\t4\nrow\t20\t-\t4\t-\t21\nrow\t20\t-\t5\t-\t22\nrow\t20\t-\t6\t-\t20\nrow\t20\t-\t10\t-\t52\nrow\t20\t-\t11\t-\t20\nrow\t20\t-\t15\t-\t20\nrow\t20\t-\t16\t-\t16\nrow\t20\t-\t20\t-\t28\nrow\t20\t-\t21\t-\t20\nrow\t21\t-\t0\t-\t21\nrow\t21\t-\t1\t-\t4\nrow\t21\t-\t5\t-\t23\nrow\t21\t-\t6\t-\t20\nrow\t21\t-\t10\t-\t53\nrow\t21\t-\t11\t-\t20\nrow\t21\t-\t15\t-\t21\nrow\t21\t-\t16\t-\t16\nrow\t21\t-\t20\t-\t29\nrow\t21\t-\t21\t-\t20\nrow\t22\t-\t0\t-\t22\nrow\t22\t-\t1\t-\t6\nrow\t22\t-\t4\t-\t23\nrow\t22\t-\t5\t-\t22\nrow\t22\t-\t6\t-\t20\nrow\t22\t-\t10\t-\t54\nrow\t22\t-\t11\t-\t22\nrow\t22\t-\t15\t-\t22\nrow\t22\t-\t16\t-\t18\nrow\t22\t-\t20\t-\t30\nrow\t22\t-\t21\t-\t22\nrow\t23\t-\t0\t-\t23\nrow\t23\t-\t1\t-\t6\nrow\t23\t-\t5\t-\t23\nrow\t23\t-\t6\t-\t20\nrow\t23\t-\t10\t-\t55\nrow\t23\t-\t11\t-\t22\nrow\t23\t-\t15\t-\t23\nrow\t23\t-\t16\t-\t18\nrow\t23\t-\t20\t-\t31\nrow\t23\t-\t21\t-\t22\nrow\t24\t-\t0\t-\t24\nrow\t24\t-\t1\t-\t8\nrow\t24\t-\t4\t-\t25\nrow\t24\t-\t5\t-\t26\nrow\t24\t-\t6\t-\t24\nrow\t24\t-\t10\t-\t56\nrow\t24\t-\t11\t-\t24\nrow\t24\t-\t15\t-\t28\nrow\t24\t-\t16\t-\t24\nrow\t24\t-\t20\t-\t24\nrow\t24\t-\t21\t-\t16\nrow\t25\t-\t0\t-\t25\nrow\t25\t-\t1\t-\t8\nrow\t25\t-\t5\t-\t27\nrow\t25\t-\t6\t-\t24\nrow\t25\t-\t10\t-\t57\nrow\t25\t-\t11\t-\t24\nrow\t25\t-\t15\t-\t29\nrow\t25\t-\t16\t-\t24\nrow\t25\t-\t20\t-\t25\nrow\t25\t-\t21\t-\t16\nrow\t26\t-\t0\t-\t26\nrow\t26\t-\t1\t-\t10\nrow\t26\t-\t4\t-\t27\nrow\t26\t-\t5\t-\t26\nrow\t26\t-\t6\t-\t24\nrow\t26\t-\t10\t-\t58\nrow\t26\t-\t11\t-\t26\nrow\t26\t-\t15\t-\t30\nrow\t26\t-\t16\t-\t26\nrow\t26\t-\t20\t-\t26\nrow\t26\t-\t21\t-\t18\nrow\t27\t-\t0\t-\t27\nrow\t27\t-\t1\t-\t10\nrow\t27\t-\t5\t-\t27\nrow\t27\t-\t6\t-\t24\nrow\t27\t-\t10\t-\t59\nrow\t27\t-\t11\t-\t26\nrow\t27\t-\t15\t-\t31\nrow\t27\t-\t16\t-\t26\nrow\t27\t-\t20\t-\t27\nrow\t27\t-\t21\t-\t18\nrow\t28\t-\t0\t-\t28\nrow\t28\t-\t1\t-\t12\nrow\t28\t-\t4\t-\t29\nrow\t28\t-\t5\t-\t30\nrow\t28\t-\t6\t-\t28\nrow\t28\t-\t10\t-\t60\nrow\t28\t-\t11\t-\t28\nrow\t28\t-\t15\t-\t28\nrow\t28\t-\t16\t-\t24\nrow\t28\t-\t20\t-\t28\nrow\t28\t-\t21\t-\t20\nrow\t29\t-\t0\t-\t29\nrow\t29\t-\t1\t-\t12\nrow\t29\t-\t5\t-\t31\nrow\t29\t-\t6\t-\t28\nrow\t29\t-\t10\t-\t61\nrow\t29\t-\t11\t-\t28\nrow\t29\t-\t15\t-\t29\nrow\t29\t-\t16\t-\t24\nrow\t29\t-\t20\t-\t29\nrow\t29\t-\t21\t-\t20\nrow\t30\t-\t0\t-\t30\nrow\t30\t-\t1\t-\t14\nrow\t30\t-\t4\t-\t31\nrow\t30\t-\t5\t-\t30\nrow\t30\t-\t6\t-\t28\nrow\t30\t-\t10\t-\t62\nrow\t30\t-\t11\t-\t30\nrow\t30\t-\t15\t-\t30\nrow\t30\t-\t16\t-\t26\nrow\t30\t-\t20\t-\t30\nrow\t30\t-\t21\t-\t22\nrow\t31\t-\t0\t-\t31\nrow\t31\t-\t1\t-\t14\nrow\t31\t-\t5\t-\t31\nrow\t31\t-\t6\t-\t28\nrow\t31\t-\t10\t-\t63\nrow\t31\t-\t11\t-\t30\nrow\t31\t-\t15\t-\t31\nrow\t31\t-\t16\t-\t26\nrow\t31\t-\t20\t-\t31\nrow\t31\t-\t21\t-\t22\nrow\t32\t-\t0\t-\t48\nrow\t32\t-\t1\t-\t32\nrow\t32\t-\t5\t-\t34\nrow\t32\t-\t6\t-\t32\nrow\t32\t-\t10\t-\t32\nrow\t32\t-\t11\t-\t0\nrow\t32\t-\t14\t-\t33\nrow\t32\t-\t15\t-\t36\nrow\t32\t-\t16\t-\t32\nrow\t32\t-\t20\t-\t40\nrow\t32\t-\t21\t-\t32\nrow\t33\t-\t0\t-\t49\nrow\t33\t-\t1\t-\t32\nrow\t33\t-\t5\t-\t35\nrow\t33\t-\t6\t-\t32\nrow\t33\t-\t10\t-\t33\nrow\t33\t-\t11\t-\t0\nrow\t33\t-\t15\t-\t37\nrow\t33\t-\t16\t-\t32\nrow\t33\t-\t20\t-\t41\nrow\t33\t-\t21\t-\t32\nrow\t34\t-\t0\t-\t50\nrow\t34\t-\t1\t-\t34\nrow\t34\t-\t5\t-\t34\nrow\t34\t-\t6\t-\t32\nrow\t34\t-\t10\t-\t34\nrow\t34\t-\t11\t-\t2\nrow\t34\t-\t14\t-\t35\nrow\t34\t-\t15\t-\t38\nrow\t34\t-\t16\t-\t34\nrow\t34\t-\t20\t-\t42\nrow\t34\t-\t21\t-\t34\nrow\t35\t-\t0\t-\t51\nrow\t35\t-\t1\t-\t34\nrow\t35\t-\t5\t-\t35\nrow\t35\t-\t6\t-\t32\nrow\t35\t-\t10\t-\t35\nrow\t35\t-\t11\t-\t2\nrow\t35\t-\t15\t-\t39\nrow\t35\t-\t16\t-\t34\nrow\t35\t-\t20\t-\t43\nrow\t35\t-\t21\t-\t34\nrow\t36\t-\t0\t-\t52\nrow\t36\t-\t1\t-\t36\nrow\t36\t-\t5\t-\t38\nrow\t36\t-\t6\t-\t36\nrow\t36\t-\t10\t-\t36\nrow\t36\t-\t11\t-\t4\nrow\t36\t-\t14\t-\t37\nrow\t36\t-\t15\t-\t36\nrow\t36\t-\t16\t-\t32\nrow\t36\t-\t20\t-\t44\nrow\t36\t-\t21\t-\t36\nrow\t37\t-\t0\t-\t53\nrow\t37\t-\t1\t-\t36\nrow\t37\t-\t5\t-\t39\nrow\t37\t-\t6\t-\t36\nrow\t37\t-\t10\t-\t37\nrow\t37\t-\t11\t-\t4\nrow\t37\t-\t15\t-\t37\nrow\t37\t-\t16\t-\t32\nrow\t37\t-\t20\t-\t45\nrow\t37\t-\t21\t-\t36\nrow\t38\t-\t0\t-\t54\nrow\t38\t-\t1\t-\t38\nrow\t38\t-\t5\t-\t38\nrow\t38\t-\t6\t-\t36\nrow\t38\t-\t10\t-\t38\nrow\t38\t-\t11\t-\t6\nrow\t38\t-\t14\t-\t39\nrow\t38\t-\t15\t-\t38\nrow\t38\t-\t16\t-\t34\nrow\t38\t-\t20\t-\t46\nrow\t38\t-\t21\t-\t38\nrow\t39\t-\t0\t-\t55\nrow\t39\t-\t1\t-\t38\nrow\t39\t-\t5\t-\t39\nrow\t39\t-\t6\t-\t36\nrow\t39\t-\t10\t-\t39\nrow\t39\t-\t11\t-\t6\nrow\t39\t-\t15\t-\t39\nrow\t39\t-\t16\t-\t34\nrow\t39\t-\t20\t-\t47\nrow\t39\t-\t21\t-\t38\nrow\t40\t-\t0\t-\t56\nrow\t40\t-\t1\t-\t40\nrow\t40\t-\t5\t-\t42\nrow\t40\t-\t6\t-\t40\nrow\t40\t-\t10\t-\t40\nrow\t40\t-\t11\t-\t8\nrow\t40\t-\t14\t-\t41\nrow\t40\t-\t15\t-\t44\nrow\t40\t-\t16\t-\t40\nrow\t40\t-\t20\t-\t40\nrow\t40\t-\t21\t-\t32\nrow\t41\t-\t0\t-\t57\nrow\t41\t-\t1\t-\t40\nrow\t41\t-\t5\t-\t43\nrow\t41\t-\t6\t-\t40\nrow\t41\t-\t10\t-\t41\nrow\t41\t-\t11\t-\t8\nrow\t41\t-\t15\t-\t45\nrow\t41\t-\t16\t-\t40\nrow\t41\t-\t20\t-\t41\nrow\t41\t-\t21\t-\t32\nrow\t42\t-\t0\t-\t58\nrow\t42\t-\t1\t-\t42\nrow\t42\t-\t5\t-\t42\nrow\t42\t-\t6\t-\t40\nrow\t42\t-\t10\t-\t42\nrow\t42\t-\t11\t-\t10\nrow\t42\t-\t14\t-\t43\nrow\t42\t-\t15\t-\t46\nrow\t42\t-\t16\t-\t42\nrow\t42\t-\t20\t-\t42\nrow\t42\t-\t21\t-\t34\nrow\t43\t-\t0\t-\t59\nrow\t43\t-\t1\t-\t42\nrow\t43\t-\t5\t-\t43\nrow\t43\t-\t6\t-\t40\nrow\t43\t-\t10\t-\t43\nrow\t43\t-\t11\t-\t10\nrow\t43\t-\t15\t-\t47\nrow\t43\t-\t16\t-\t42\nrow\t43\t-\t20\t-\t43\nrow\t43\t-\t21\t-\t34\nrow\t44\t-\t0\t-\t60\nrow\t44\t-\t1\t-\t44\nrow\t44\t-\t5\t-\t46\nrow\t44\t-\t6\t-\t44\nrow\t44\t-\t10\t-\t44\nrow\t44\t-\t11\t-\t12\nrow\t44\t-\t14\t-\t45\nrow\t44\t-\t15\t-\t44\nrow\t44\t-\t16\t-\t40\nrow\t44\t-\t20\t-\t44\nrow\t44\t-\t21\t-\t36\nrow\t45\t-\t0\t-\t61\nrow\t45\t-\t1\t-\t44\nrow\t45\t-\t5\t-\t47\nrow\t45\t-\t6\t-\t44\nrow\t45\t-\t10\t-\t45\nrow\t45\t-\t11\t-\t12\nrow\t45\t-\t15\t-\t45\nrow\t45\t-\t16\t-\t40\nrow\t45\t-\t20\t-\t45\nrow\t45\t-\t21\t-\t36\nrow\t46\t-\t0\t-\t62\nrow\t46\t-\t1\t-\t46\nrow\t46\t-\t5\t-\t46\nrow\t46\t-\t6\t-\t44\nrow\t46\t-\t10\t-\t46\nrow\t46\t-\t11\t-\t14\nrow\t46\t-\t14\t-\t47\nrow\t46\t-\t15\t-\t46\nrow\t46\t-\t16\t-\t42\nrow\t46\t-\t20\t-\t46\nrow\t46\t-\t21\t-\t38\nrow\t47\t-\t0\t-\t63\nrow\t47\t-\t1\t-\t46\nrow\t47\t-\t5\t-\t47\nrow\t47\t-\t6\t-\t44\nrow\t47\t-\t10\t-\t47\nrow\t47\t-\t11\t-\t14\nrow\t47\t-\t15\t-\t47\nrow\t47\t-\t16\t-\t42\nrow\t47\t-\t20\t-\t47\nrow\t47\t-\t21\t-\t38\nrow\t48\t-\t0\t-\t48\nrow\t48\t-\t1\t-\t32\nrow\t48\t-\t5\t-\t50\nrow\t48\t-\t6\t-\t48\nrow\t48\t-\t10\t-\t48\nrow\t48\t-\t11\t-\t16\nrow\t48\t-\t14\t-\t49\nrow\t48\t-\t15\t-\t52\nrow\t48\t-\t16\t-\t48\nrow\t48\t-\t20\t-\t56\nrow\t48\t-\t21\t-\t48\nrow\t49\t-\t0\t-\t49\nrow\t49\t-\t1\t-\t32\nrow\t49\t-\t5\t-\t51\nrow\t49\t-\t6\t-\t48\nrow\t49\t-\t10\t-\t49\nrow\t49\t-\t11\t-\t16\nrow\t49\t-\t15\t-\t53\nrow\t49\t-\t16\t-\t48\nrow\t49\t-\t20\t-\t57\nrow\t49\t-\t21\t-\t48\nrow\t50\t-\t0\t-\t50\nrow\t50\t-\t1\t-\t34\nrow\t50\t-\t5\t-\t50\nrow\t50\t-\t6\t-\t48\nrow\t50\t-\t10\t-\t50\nrow\t50\t-\t11\t-\t18\nrow\t50\t-\t14\t-\t51\nrow\t50\t-\t15\t-\t54\nrow\t50\t-\t16\t-\t50\nrow\t50\t-\t20\t-\t58\nrow\t50\t-\t21\t-\t50\nrow\t51\t-\t0\t-\t51\nrow\t51\t-\t1\t-\t34\nrow\t51\t-\t5\t-\t51\nrow\t51\t-\t6\t-\t48\nrow\t51\t-\t10\t-\t51\nrow\t51\t-\t11\t-\t18\nrow\t51\t-\t15\t-\t55\nrow\t51\t-\t16\t-\t50\nrow\t51\t-\t20\t-\t59\nrow\t51\t-\t21\t-\t50\nrow\t52\t-\t0\t-\t52\nrow\t52\t-\t1\t-\t36\nrow\t52\t-\t5\t-\t54\nrow\t52\t-\t6\t-\t52\nrow\t52\t-\t10\t-\t52\nrow\t52\t-\t11\t-\t20\nrow\t52\t-\t14\t-\t53\nrow\t52\t-\t15\t-\t52\nrow\t52\t-\t16\t-\t48\nrow\t52\t-\t20\t-\t60\nrow\t52\t-\t21\t-\t52\nrow\t53\t-\t0\t-\t53\nrow\t53\t-\t1\t-\t36\nrow\t53\t-\t5\t-\t55\nrow\t53\t-\t6\t-\t52\nrow\t53\t-\t10\t-\t53\nrow\t53\t-\t11\t-\t20\nrow\t53\t-\t15\t-\t53\nrow\t53\t-\t16\t-\t48\nrow\t53\t-\t20\t-\t61\nrow\t53\t-\t21\t-\t52\nrow\t54\t-\t0\t-\t54\nrow\t54\t-\t1\t-\t38\nrow\t54\t-\t5\t-\t54\nrow\t54\t-\t6\t-\t52\nrow\t54\t-\t10\t-\t54\nrow\t54\t-\t11\t-\t22\nrow\t54\t-\t14\t-\t55\nrow\t54\t-\t15\t-\t54\nrow\t54\t-\t16\t-\t50\nrow\t54\t-\t20\t-\t62\nrow\t54\t-\t21\t-\t54\nrow\t55\t-\t0\t-\t55\nrow\t55\t-\t1\t-\t38\nrow\t55\t-\t5\t-\t55\nrow\t55\t-\t6\t-\t52\nrow\t55\t-\t10\t-\t55\nrow\t55\t-\t11\t-\t22\nrow\t55\t-\t15\t-\t55\nrow\t55\t-\t16\t-\t50\nrow\t55\t-\t20\t-\t63\nrow\t55\t-\t21\t-\t54\nrow\t56\t-\t0\t-\t56\nrow\t56\t-\t1\t-\t40\nrow\t56\t-\t5\t-\t58\nrow\t56\t-\t6\t-\t56\nrow\t56\t-\t10\t-\t56\nrow\t56\t-\t11\t-\t24\nrow\t56\t-\t14\t-\t57\nrow\t56\t-\t15\t-\t60\nrow\t56\t-\t16\t-\t56\nrow\t56\t-\t20\t-\t56\nrow\t56\t-\t21\t-\t48\nrow\t57\t-\t0\t-\t57\nrow\t57\t-\t1\t-\t40\nrow\t57\t-\t5\t-\t59\nrow\t57\t-\t6\t-\t56\nrow\t57\t-\t10\t-\t57\nrow\t57\t-\t11\t-\t24\nrow\t57\t-\t15\t-\t61\nrow\t57\t-\t16\t-\t56\nrow\t57\t-\t20\t-\t57\nrow\t57\t-\t21\t-\t48\nrow\t58\t-\t0\t-\t58\nrow\t58\t-\t1\t-\t42\nrow\t58\t-\t5\t-\t58\nrow\t58\t-\t6\t-\t56\nrow\t58\t-\t10\t-\t58\nrow\t58\t-\t11\t-\t26\nrow\t58\t-\t14\t-\t59\nrow\t58\t-\t15\t-\t62\nrow\t58\t-\t16\t-\t58\nrow\t58\t-\t20\t-\t58\nrow\t58\t-\t21\t-\t50\nrow\t59\t-\t0\t-\t59\nrow\t59\t-\t1\t-\t42\nrow\t59\t-\t5\t-\t59\nrow\t59\t-\t6\t-\t56\nrow\t59\t-\t10\t-\t59\nrow\t59\t-\t11\t-\t26\nrow\t59\t-\t15\t-\t63\nrow\t59\t-\t16\t-\t58\nrow\t59\t-\t20\t-\t59\nrow\t59\t-\t21\t-\t50\nrow\t60\t-\t0\t-\t60\nrow\t60\t-\t1\t-\t44\nrow\t60\t-\t5\t-\t62\nrow\t60\t-\t6\t-\t60\nrow\t60\t-\t10\t-\t60\nrow\t60\t-\t11\t-\t28\nrow\t60\t-\t14\t-\t61\nrow\t60\t-\t15\t-\t60\nrow\t60\t-\t16\t-\t56\nrow\t60\t-\t20\t-\t60\nrow\t60\t-\t21\t-\t52\nrow\t61\t-\t0\t-\t61\nrow\t61\t-\t1\t-\t44\nrow\t61\t-\t5\t-\t63\nrow\t61\t-\t6\t-\t60\nrow\t61\t-\t10\t-\t61\nrow\t61\t-\t11\t-\t28\nrow\t61\t-\t15\t-\t61\nrow\t61\t-\t16\t-\t56\nrow\t61\t-\t20\t-\t61\nrow\t61\t-\t21\t-\t52\nrow\t62\t-\t0\t-\t62\nrow\t62\t-\t1\t-\t46\nrow\t62\t-\t5\t-\t62\nrow\t62\t-\t6\t-\t60\nrow\t62\t-\t10\t-\t62\nrow\t62\t-\t11\t-\t30\nrow\t62\t-\t14\t-\t63\nrow\t62\t-\t15\t-\t62\nrow\t62\t-\t16\t-\t58\nrow\t62\t-\t20\t-\t62\nrow\t62\t-\t21\t-\t54\nrow\t63\t-\t0\t-\t63\nrow\t63\t-\t1\t-\t46\nrow\t63\t-\t5\t-\t63\nrow\t63\t-\t6\t-\t60\nrow\t63\t-\t10\t-\t63\nrow\t63\t-\t11\t-\t30\nrow\t63\t-\t15\t-\t63\nrow\t63\t-\t16\t-\t58\nrow\t63\t-\t20\t-\t63\nrow\t63\t-\t21\t-\t54\n" }

unfoldable pub w5 : Worked
w5 = record { tree = "be\t0\nbe\t1\nbe\t2\nor\t3\t0\t1\nrbox\t4\t2\t0\t1\n"; model = "comp\t9\t0\nact\t0\tout\nact\t1\tout\nact\t2\tuout\nact\t3\tuout\nact\t4\tuin\nclk\t0\t1\nclk\t1\t0\nrow\t0\t0\t0\t-\t4\nrow\t0\t-\t4\t-\t0\nrow\t1\t-\t4\t1\t2\nrow\t2\t1\t1\t0\t6\nrow\t2\t-\t4\t-\t2\nrow\t3\t0\t0\t-\t4\nrow\t3\t-\t2\t-\t0\nrow\t3\t-\t4\t-\t3\nrow\t4\t-\t2\t-\t1\nrow\t4\t-\t4\t1\t5\nrow\t5\t1\t1\t0\t6\nrow\t5\t-\t2\t-\t2\nrow\t5\t-\t4\t-\t5\nrow\t6\t0\t0\t-\t4\nrow\t6\t-\t3\t-\t0\nrow\t6\t-\t4\t-\t6\nrow\t7\t-\t3\t-\t1\nrow\t7\t-\t4\t1\t8\nrow\t8\t1\t1\t0\t6\nrow\t8\t-\t3\t-\t2\nrow\t8\t-\t4\t-\t8\ncomp\t9\t0\nact\t5\tout\nact\t6\tout\nact\t7\tuout\nact\t8\tuout\nact\t9\tuin\nclk\t2\t1\nclk\t3\t0\nrow\t0\t2\t5\t-\t4\nrow\t0\t-\t9\t-\t0\nrow\t1\t-\t9\t3\t2\nrow\t2\t3\t6\t2\t6\nrow\t2\t-\t9\t-\t2\nrow\t3\t2\t5\t-\t4\nrow\t3\t-\t7\t-\t0\nrow\t3\t-\t9\t-\t3\nrow\t4\t-\t7\t-\t1\nrow\t4\t-\t9\t3\t5\nrow\t5\t3\t6\t2\t6\nrow\t5\t-\t7\t-\t2\nrow\t5\t-\t9\t-\t5\nrow\t6\t2\t5\t-\t4\nrow\t6\t-\t8\t-\t0\nrow\t6\t-\t9\t-\t6\nrow\t7\t-\t8\t-\t1\nrow\t7\t-\t9\t3\t8\nrow\t8\t3\t6\t2\t6\nrow\t8\t-\t8\t-\t2\nrow\t8\t-\t9\t-\t8\ncomp\t9\t0\nact\t10\tout\nact\t11\tout\nact\t12\tuout\nact\t13\tuout\nact\t14\tuin\nclk\t4\t1\nclk\t5\t0\nrow\t0\t4\t10\t-\t4\nrow\t0\t-\t14\t-\t0\nrow\t1\t-\t14\t5\t2\nrow\t2\t5\t11\t4\t6\nrow\t2\t-\t14\t-\t2\nrow\t3\t4\t10\t-\t4\nrow\t3\t-\t12\t-\t0\nrow\t3\t-\t14\t-\t3\nrow\t4\t-\t12\t-\t1\nrow\t4\t-\t14\t5\t5\nrow\t5\t5\t11\t4\t6\nrow\t5\t-\t12\t-\t2\nrow\t5\t-\t14\t-\t5\nrow\t6\t4\t10\t-\t4\nrow\t6\t-\t13\t-\t0\nrow\t6\t-\t14\t-\t6\nrow\t7\t-\t13\t-\t1\nrow\t7\t-\t14\t5\t8\nrow\t8\t5\t11\t4\t6\nrow\t8\t-\t13\t-\t2\nrow\t8\t-\t14\t-\t8\ncomp\t12\t0\nact\t2\tuin\nact\t3\tuin\nact\t7\tuin\nact\t8\tuin\nact\t15\tuout\nact\t16\tuout\nrow\t0\t-\t2\t-\t7\nrow\t0\t-\t3\t-\t0\nrow\t0\t-\t7\t-\t7\nrow\t0\t-\t8\t-\t0\nrow\t1\t-\t2\t-\t2\nrow\t1\t-\t3\t-\t3\nrow\t1\t-\t7\t-\t2\nrow\t1\t-\t8\t-\t3\nrow\t2\t-\t2\t-\t2\nrow\t2\t-\t3\t-\t1\nrow\t2\t-\t7\t-\t2\nrow\t2\t-\t8\t-\t1\nrow\t3\t-\t2\t-\t10\nrow\t3\t-\t3\t-\t3\nrow\t3\t-\t7\t-\t10\nrow\t3\t-\t8\t-\t3\nrow\t3\t-\t16\t-\t0\nrow\t4\t-\t2\t-\t5\nrow\t4\t-\t3\t-\t3\nrow\t4\t-\t7\t-\t5\nrow\t4\t-\t8\t-\t3\nrow\t5\t-\t2\t-\t5\nrow\t5\t-\t3\t-\t4\nrow\t5\t-\t7\t-\t5\nrow\t5\t-\t8\t-\t4\nrow\t6\t-\t2\t-\t7\nrow\t6\t-\t3\t-\t6\nrow\t6\t-\t7\t-\t7\nrow\t6\t-\t8\t-\t6\nrow\t7\t-\t2\t-\t8\nrow\t7\t-\t3\t-\t9\nrow\t7\t-\t7\t-\t8\nrow\t7\t-\t8\t-\t9\nrow\t7\t-\t15\t-\t1\nrow\t8\t-\t2\t-\t8\nrow\t8\t-\t3\t-\t7\nrow\t8\t-\t7\t-\t8\nrow\t8\t-\t8\t-\t7\nrow\t8\t-\t15\t-\t2\nrow\t9\t-\t2\t-\t10\nrow\t9\t-\t3\t-\t9\nrow\t9\t-\t7\t-\t10\nrow\t9\t-\t8\t-\t9\nrow\t9\t-\t16\t-\t6\nrow\t10\t-\t2\t-\t11\nrow\t10\t-\t3\t-\t9\nrow\t10\t-\t7\t-\t11\nrow\t10\t-\t8\t-\t9\nrow\t10\t-\t15\t-\t4\nrow\t11\t-\t2\t-\t11\nrow\t11\t-\t3\t-\t10\nrow\t11\t-\t7\t-\t11\nrow\t11\t-\t8\t-\t10\nrow\t11\t-\t15\t-\t5\ncomp\t16\t0\nact\t0\tin\nact\t1\tin\nact\t4\tuout\nact\t5\tin\nact\t6\tin\nact\t9\tuout\nact\t10\tin\nact\t11\tin\nact\t14\tuout\nrow\t0\t-\t0\t-\t4\nrow\t0\t-\t1\t-\t0\nrow\t0\t-\t5\t-\t2\nrow\t0\t-\t6\t-\t0\nrow\t0\t-\t10\t-\t8\nrow\t0\t-\t11\t-\t0\nrow\t1\t-\t0\t-\t5\nrow\t1\t-\t1\t-\t0\nrow\t1\t-\t5\t-\t3\nrow\t1\t-\t6\t-\t0\nrow\t1\t-\t10\t-\t9\nrow\t1\t-\t11\t-\t0\nrow\t2\t-\t0\t-\t6\nrow\t2\t-\t1\t-\t2\nrow\t2\t-\t5\t-\t2\nrow\t2\t-\t6\t-\t0\nrow\t2\t-\t9\t-\t3\nrow\t2\t-\t10\t-\t10\nrow\t2\t-\t11\t-\t2\nrow\t3\t-\t0\t-\t7\nrow\t3\t-\t1\t-\t2\nrow\t3\t-\t5\t-\t3\nrow\t3\t-\t6\t-\t0\nrow\t3\t-\t10\t-\t11\nrow\t3\t-\t11\t-\t2\nrow\t4\t-\t0\t-\t4\nrow\t4\t-\t1\t-\t0\nrow\t4\t-\t4\t-\t5\nrow\t4\t-\t5\t-\t6\nrow\t4\t-\t6\t-\t4\nrow\t4\t-\t10\t-\t12\nrow\t4\t-\t11\t-\t4\nrow\t5\t-\t0\t-\t5\nrow\t5\t-\t1\t-\t0\nrow\t5\t-\t5\t-\t7\nrow\t5\t-\t6\t-\t4\nrow\t5\t-\t10\t-\t13\nrow\t5\t-\t11\t-\t4\nrow\t6\t-\t0\t-\t6\nrow\t6\t-\t1\t-\t2\nrow\t6\t-\t4\t-\t7\nrow\t6\t-\t5\t-\t6\nrow\t6\t-\t6\t-\t4\nrow\t6\t-\t10\t-\t14\nrow\t6\t-\t11\t-\t6\nrow\t7\t-\t0\t-\t7\nrow\t7\t-\t1\t-\t2\nrow\t7\t-\t5\t-\t7\nrow\t7\t-\t6\t-\t4\nrow\t7\t-\t10\t-\t15\nrow\t7\t-\t11\t-\t6\nrow\t8\t-\t0\t-\t12\nrow\t8\t-\t1\t-\t8\nrow\t8\t-\t5\t-\t10\nrow\t8\t-\t6\t-\t8\nrow\t8\t-\t10\t-\t8\nrow\t8\t-\t11\t-\t0\nrow\t8\t-\t14\t-\t9\nrow\t9\t-\t0\t-\t13\nrow\t9\t-\t1\t-\t8\nrow\t9\t-\t5\t-\t11\nrow\t9\t-\t6\t-\t8\nrow\t9\t-\t10\t-\t9\nrow\t9\t-\t11\t-\t0\nrow\t10\t-\t0\t-\t14\nrow\t10\t-\t1\t-\t10\nrow\t10\t-\t5\t-\t10\nrow\t10\t-\t6\t-\t8\nrow\t10\t-\t10\t-\t10\nrow\t10\t-\t11\t-\t2\nrow\t10\t-\t14\t-\t11\nrow\t11\t-\t0\t-\t15\nrow\t11\t-\t1\t-\t10\nrow\t11\t-\t5\t-\t11\nrow\t11\t-\t6\t-\t8\nrow\t11\t-\t10\t-\t11\nrow\t11\t-\t11\t-\t2\nrow\t12\t-\t0\t-\t12\nrow\t12\t-\t1\t-\t8\nrow\t12\t-\t5\t-\t14\nrow\t12\t-\t6\t-\t12\nrow\t12\t-\t10\t-\t12\nrow\t12\t-\t11\t-\t4\nrow\t12\t-\t14\t-\t13\nrow\t13\t-\t0\t-\t13\nrow\t13\t-\t1\t-\t8\nrow\t13\t-\t5\t-\t15\nrow\t13\t-\t6\t-\t12\nrow\t13\t-\t10\t-\t13\nrow\t13\t-\t11\t-\t4\nrow\t14\t-\t0\t-\t14\nrow\t14\t-\t1\t-\t10\nrow\t14\t-\t5\t-\t14\nrow\t14\t-\t6\t-\t12\nrow\t14\t-\t10\t-\t14\nrow\t14\t-\t11\t-\t6\nrow\t14\t-\t14\t-\t15\nrow\t15\t-\t0\t-\t15\nrow\t15\t-\t1\t-\t10\nrow\t15\t-\t5\t-\t15\nrow\t15\t-\t6\t-\t12\nrow\t15\t-\t10\t-\t15\nrow\t15\t-\t11\t-\t6\n" }

unfoldable pub w6 : Worked
w6 = record { tree = "be\t0\nbe\t1\nbe\t2\nbe\t3\nand\t4\t0\t1\nrbox\t5\t3\t0\t2\t1\n"; model = "comp\t9\t0\nact\t0\tout\nact\t1\tout\nact\t2\tuout\nact\t3\tuout\nact\t4\tuin\nclk\t0\t1\nclk\t1\t0\nrow\t0\t0\t0\t-\t4\nrow\t0\t-\t4\t-\t0\nrow\t1\t-\t4\t1\t2\nrow\t2\t1\t1\t0\t6\nrow\t2\t-\t4\t-\t2\nrow\t3\t0\t0\t-\t4\nrow\t3\t-\t2\t-\t0\nrow\t3\t-\t4\t-\t3\nrow\t4\t-\t2\t-\t1\nrow\t4\t-\t4\t1\t5\nrow\t5\t1\t1\t0\t6\nrow\t5\t-\t2\t-\t2\nrow\t5\t-\t4\t-\t5\nrow\t6\t0\t0\t-\t4\nrow\t6\t-\t3\t-\t0\nrow\t6\t-\t4\t-\t6\nrow\t7\t-\t3\t-\t1\nrow\t7\t-\t4\t1\t8\nrow\t8\t1\t1\t0\t6\nrow\t8\t-\t3\t-\t2\nrow\t8\t-\t4\t-\t8\ncomp\t9\t0\nact\t5\tout\nact\t6\tout\nact\t7\tuout\nact\t8\tuout\nact\t9\tuin\nclk\t2\t1\nclk\t3\t0\nrow\t0\t2\t5\t-\t4\nrow\t0\t-\t9\t-\t0\nrow\t1\t-\t9\t3\t2\nrow\t2\t3\t6\t2\t6\nrow\t2\t-\t9\t-\t2\nrow\t3\t2\t5\t-\t4\nrow\t3\t-\t7\t-\t0\nrow\t3\t-\t9\t-\t3\nrow\t4\t-\t7\t-\t1\nrow\t4\t-\t9\t3\t5\nrow\t5\t3\t6\t2\t6\nrow\t5\t-\t7\t-\t2\nrow\t5\t-\t9\t-\t5\nrow\t6\t2\t5\t-\t4\nrow\t6\t-\t8\t-\t0\nrow\t6\t-\t9\t-\t6\nrow\t7\t-\t8\t-\t1\nrow\t7\t-\t9\t3\t8\nrow\t8\t3\t6\t2\t6\nrow\t8\t-\t8\t-\t2\nrow\t8\t-\t9\t-\t8\ncomp\t9\t0\nact\t10\tout\nact\t11\tout\nact\t12\tuout\nact\t13\tuout\nact\t14\tuin\nclk\t4\t1\nclk\t5\t0\nrow\t0\t4\t10\t-\t4\nrow\t0\t-\t14\t-\t0\nrow\t1\t-\t14\t5\t2\nrow\t2\t5\t11\t4\t6\nrow\t2\t-\t14\t-\t2\nrow\t3\t4\t10\t-\t4\nrow\t3\t-\t12\t-\t0\nrow\t3\t-\t14\t-\t3\nrow\t4\t-\t12\t-\t1\nrow\t4\t-\t14\t5\t5\nrow\t5\t5\t11\t4\t6\nrow\t5\t-\t12\t-\t2\nrow\t5\t-\t14\t-\t5\nrow\t6\t4\t10\t-\t4\nrow\t6\t-\t13\t-\t0\nrow\t6\t-\t14\t-\t6\nrow\t7\t-\t13\t-\t1\nrow\t7\t-\t14\t5\t8\nrow\t8\t5\t11\t4\t6\nrow\t8\t-\t13\t-\t2\nrow\t8\t-\t14\t-\t8\ncomp\t9\t0\nact\t15\tout\nact\t16\tout\nact\t17\tuout\nact\t18\tuout\nact\t19\tuin\nclk\t6\t1\nclk\t7\t0\nrow\t0\t6\t15\t-\t4\nrow\t0\t-\t19\t-\t0\nrow\t1\t-\t19\t7\t2\nrow\t2\t7\t16\t6\t6\nrow\t2\t-\t19\t-\t2\nrow\t3\t6\t15\t-\t4\nrow\t3\t-\t17\t-\t0\nrow\t3\t-\t19\t-\t3\nrow\t4\t-\t17\t-\t1\nrow\t4\t-\t19\t7\t5\nrow\t5\t7\t16\t6\t6\nrow\t5\t-\t17\t-\t2\nrow\t5\t-\t19\t-\t5\nrow\t6\t6\t15\t-\t4\nrow\t6\t-\t18\t-\t0\nrow\t6\t-\t19\t-\t6\nrow\t7\t-\t18\t-\t1\nrow\t7\t-\t19\t7\t8\nrow\t8\t7\t16\t6\t6\nrow\t8\t-\t18\t-\t2\nrow\t8\t-\t19\t-\t8\ncomp\t12\t0\nact\t2\tuin\nact\t3\tuin\nact\t7\tuin\nact\t8\tuin\nact\t20\tuout\nact\t21\tuout\nrow\t0\t-\t2\t-\t1\nrow\t0\t-\t3\t-\t0\nrow\t0\t-\t7\t-\t1\nrow\t0\t-\t8\t-\t0\nrow\t1\t-\t2\t-\t8\nrow\t1\t-\t3\t-\t0\nrow\t1\t-\t7\t-\t8\nrow\t1\t-\t8\t-\t0\nrow\t2\t-\t2\t-\t2\nrow\t2\t-\t3\t-\t4\nrow\t2\t-\t7\t-\t2\nrow\t2\t-\t8\t-\t4\nrow\t3\t-\t2\t-\t4\nrow\t3\t-\t3\t-\t3\nrow\t3\t-\t7\t-\t4\nrow\t3\t-\t8\t-\t3\nrow\t3\t-\t21\t-\t0\nrow\t4\t-\t2\t-\t11\nrow\t4\t-\t3\t-\t3\nrow\t4\t-\t7\t-\t11\nrow\t4\t-\t8\t-\t3\nrow\t4\t-\t21\t-\t1\nrow\t5\t-\t2\t-\t5\nrow\t5\t-\t3\t-\t4\nrow\t5\t-\t7\t-\t5\nrow\t5\t-\t8\t-\t4\nrow\t6\t-\t2\t-\t7\nrow\t6\t-\t3\t-\t6\nrow\t6\t-\t7\t-\t7\nrow\t6\t-\t8\t-\t6\nrow\t7\t-\t2\t-\t8\nrow\t7\t-\t3\t-\t6\nrow\t7\t-\t7\t-\t8\nrow\t7\t-\t8\t-\t6\nrow\t8\t-\t2\t-\t8\nrow\t8\t-\t3\t-\t10\nrow\t8\t-\t7\t-\t8\nrow\t8\t-\t8\t-\t10\nrow\t8\t-\t20\t-\t2\nrow\t9\t-\t2\t-\t10\nrow\t9\t-\t3\t-\t9\nrow\t9\t-\t7\t-\t10\nrow\t9\t-\t8\t-\t9\nrow\t9\t-\t21\t-\t6\nrow\t10\t-\t2\t-\t11\nrow\t10\t-\t3\t-\t9\nrow\t10\t-\t7\t-\t11\nrow\t10\t-\t8\t-\t9\nrow\t10\t-\t21\t-\t7\nrow\t11\t-\t2\t-\t11\nrow\t11\t-\t3\t-\t10\nrow\t11\t-\t7\t-\t11\nrow\t11\t-\t8\t-\t10\nrow\t11\t-\t20\t-\t5\ncomp\t32\t0\nact\t0\tin\nact\t1\tin\nact\t4\tuout\nact\t5\tin\nact\t6\tin\nact\t9\tuout\nact\t10\tin\nact\t11\tin\nact\t14\tuout\nact\t15\tin\nact\t16\tin\nact\t19\tuout\nrow\t0\t-\t0\t-\t8\nrow\t0\t-\t1\t-\t0\nrow\t0\t-\t5\t-\t2\nrow\t0\t-\t6\t-\t0\nrow\t0\t-\t10\t-\t4\nrow\t0\t-\t11\t-\t0\nrow\t0\t-\t15\t-\t16\nrow\t0\t-\t16\t-\t0\nrow\t1\t-\t0\t-\t9\nrow\t1\t-\t1\t-\t0\nrow\t1\t-\t5\t-\t3\nrow\t1\t-\t6\t-\t0\nrow\t1\t-\t10\t-\t5\nrow\t1\t-\t11\t-\t0\nrow\t1\t-\t15\t-\t17\nrow\t1\t-\t16\t-\t0\nrow\t2\t-\t0\t-\t10\nrow\t2\t-\t1\t-\t2\nrow\t2\t-\t5\t-\t2\nrow\t2\t-\t6\t-\t0\nrow\t2\t-\t9\t-\t3\nrow\t2\t-\t10\t-\t6\nrow\t2\t-\t11\t-\t2\nrow\t2\t-\t15\t-\t18\nrow\t2\t-\t16\t-\t2\nrow\t3\t-\t0\t-\t11\nrow\t3\t-\t1\t-\t2\nrow\t3\t-\t5\t-\t3\nrow\t3\t-\t6\t-\t0\nrow\t3\t-\t10\t-\t7\nrow\t3\t-\t11\t-\t2\nrow\t3\t-\t15\t-\t19\nrow\t3\t-\t16\t-\t2\nrow\t4\t-\t0\t-\t12\nrow\t4\t-\t1\t-\t4\nrow\t4\t-\t5\t-\t6\nrow\t4\t-\t6\t-\t4\nrow\t4\t-\t10\t-\t4\nrow\t4\t-\t11\t-\t0\nrow\t4\t-\t14\t-\t5\nrow\t4\t-\t15\t-\t20\nrow\t4\t-\t16\t-\t4\nrow\t5\t-\t0\t-\t13\nrow\t5\t-\t1\t-\t4\nrow\t5\t-\t5\t-\t7\nrow\t5\t-\t6\t-\t4\nrow\t5\t-\t10\t-\t5\nrow\t5\t-\t11\t-\t0\nrow\t5\t-\t15\t-\t21\nrow\t5\t-\t16\t-\t4\nrow\t6\t-\t0\t-\t14\nrow\t6\t-\t1\t-\t6\nrow\t6\t-\t5\t-\t6\nrow\t6\t-\t6\t-\t4\nrow\t6\t-\t10\t-\t6\nrow\t6\t-\t11\t-\t2\nrow\t6\t-\t14\t-\t7\nrow\t6\t-\t15\t-\t22\nrow\t6\t-\t16\t-\t6\nrow\t7\t-\t0\t-\t15\nrow\t7\t-\t1\t-\t6\nrow\t7\t-\t5\t-\t7\nrow\t7\t-\t6\t-\t4\nrow\t7\t-\t10\t-\t7\nrow\t7\t-\t11\t-\t2\nrow\t7\t-\t15\t-\t23\nrow\t7\t-\t16\t-\t6\nrow\t8\t-\t0\t-\t8\nrow\t8\t-\t1\t-\t0\nrow\t8\t-\t4\t-\t9\nrow\t8\t-\t5\t-\t10\nrow\t8\t-\t6\t-\t8\nrow\t8\t-\t10\t-\t12\nrow\t8\t-\t11\t-\t8\nrow\t8\t-\t15\t-\t24\nrow\t8\t-\t16\t-\t8\nrow\t9\t-\t0\t-\t9\nrow\t9\t-\t1\t-\t0\nrow\t9\t-\t5\t-\t11\nrow\t9\t-\t6\t-\t8\nrow\t9\t-\t10\t-\t13\nrow\t9\t-\t11\t-\t8\nrow\t9\t-\t15\t-\t25\nrow\t9\t-\t16\t-\t8\nrow\t10\t-\t0\t-\t10\nrow\t10\t-\t1\t-\t2\nrow\t10\t-\t4\t-\t11\nrow\t10\t-\t5\t-\t10\nrow\t10\t-\t6\t-\t8\nrow\t10\t-\t10\t-\t14\nrow\t10\t-\t11\t-\t10\nrow\t10\t-\t15\t-\t26\nrow\t10\t-\t16\t-\t10\nrow\t11\t-\t0\t-\t11\nrow\t11\t-\t1\t-\t2\nrow\t11\t-\t5\t-\t11\nrow\t11\t-\t6\t-\t8\nrow\t11\t-\t10\t-\t15\nrow\t11\t-\t11\t-\t10\nrow\t11\t-\t15\t-\t27\nrow\t11\t-\t16\t-\t10\nrow\t12\t-\t0\t-\t12\nrow\t12\t-\t1\t-\t4\nrow\t12\t-\t4\t-\t13\nrow\t12\t-\t5\t-\t14\nrow\t12\t-\t6\t-\t12\nrow\t12\t-\t10\t-\t12\nrow\t12\t-\t11\t-\t8\nrow\t12\t-\t15\t-\t28\nrow\t12\t-\t16\t-\t12\nrow\t13\t-\t0\t-\t13\nrow\t13\t-\t1\t-\t4\nrow\t13\t-\t5\t-\t15\nrow\t13\t-\t6\t-\t12\nrow\t13\t-\t10\t-\t13\nrow\t13\t-\t11\t-\t8\nrow\t13\t-\t15\t-\t29\nrow\t13\t-\t16\t-\t12\nrow\t14\t-\t0\t-\t14\nrow\t14\t-\t1\t-\t6\nrow\t14\t-\t4\t-\t15\nrow\t14\t-\t5\t-\t14\nrow\t14\t-\t6\t-\t12\nrow\t14\t-\t10\t-\t14\nrow\t14\t-\t11\t-\t10\nrow\t14\t-\t15\t-\t30\nrow\t14\t-\t16\t-\t14\nrow\t15\t-\t0\t-\t15\nrow\t15\t-\t1\t-\t6\nrow\t15\t-\t5\t-\t15\nrow\t15\t-\t6\t-\t12\nrow\t15\t-\t10\t-\t15\nrow\t15\t-\t11\t-\t10\nrow\t15\t-\t15\t-\t31\nrow\t15\t-\t16\t-\t14\nrow\t16\t-\t0\t-\t24\nrow\t16\t-\t1\t-\t16\nrow\t16\t-\t5\t-\t18\nrow\t16\t-\t6\t-\t16\nrow\t16\t-\t10\t-\t20\nrow\t16\t-\t11\t-\t16\nrow\t16\t-\t15\t-\t16\nrow\t16\t-\t16\t-\t0\nrow\t16\t-\t19\t-\t17\nrow\t17\t-\t0\t-\t25\nrow\t17\t-\t1\t-\t16\nrow\t17\t-\t5\t-\t19\nrow\t17\t-\t6\t-\t16\nrow\t17\t-\t10\t-\t21\nrow\t17\t-\t11\t-\t16\nrow\t17\t-\t15\t-\t17\nrow\t17\t-\t16\t-\t0\nrow\t18\t-\t0\t-\t26\nrow\t18\t-\t1\t-\t18\nrow\t18\t-\t5\t-\t18\nrow\t18\t-\t6\t-\t16\nrow\t18\t-\t10\t-\t22\nrow\t18\t-\t11\t-\t18\nrow\t18\t-\t15\t-\t18\nrow\t18\t-\t16\t-\t2\nrow\t18\t-\t19\t-\t19\nrow\t19\t-\t0\t-\t27\nrow\t19\t-\t1\t-\t18\nrow\t19\t-\t5\t-\t19\nrow\t19\t-\t6\t-\t16\nrow\t19\t-\t10\t-\t23\nrow\t19\t-\t11\t-\t18\nrow\t19\t-\t15\t-\t19\nrow\t19\t-\t16\t-\t2\nrow\t20\t-\t0\t-\t28\nrow\t20\t-\t1\t-\t20\nrow\t20\t-\t5\t-\t22\nrow\t20\t-\t6\t-\t20\nrow\t20\t-\t10\t-\t20\nrow\t20\t-\t11\t-\t16\nrow\t20\t-\t15\t-\t20\nrow\t20\t-\t16\t-\t4\nrow\t20\t-\t19\t-\t21\nrow\t21\t-\t0\t-\t29\nrow\t21\t-\t1\t-\t20\nrow\t21\t-\t5\t-\t23\nrow\t21\t-\t6\t-\t20\nrow\t21\t-\t10\t-\t21\nrow\t21\t-\t11\t-\t16\nrow\t21\t-\t15\t-\t21\nrow\t21\t-\t16\t-\t4\nrow\t22\t-\t0\t-\t30\nrow\t22\t-\t1\t-\t22\nrow\t22\t-\t5\t-\t22\nrow\t22\t-\t6\t-\t20\nrow\t22\t-\t10\t-\t22\nrow\t22\t-\t11\t-\t18\nrow\t22\t-\t15\t-\t22\nrow\t22\t-\t16\t-\t6\nrow\t22\t-\t19\t-\t23\nrow\t23\t-\t0\t-\t31\nrow\t23\t-\t1\t-\t22\nrow\t23\t-\t5\t-\t23\nrow\t23\t-\t6\t-\t20\nrow\t23\t-\t10\t-\t23\nrow\t23\t-\t11\t-\t18\nrow\t23\t-\t15\t-\t23\nrow\t23\t-\t16\t-\t6\nrow\t24\t-\t0\t-\t24\nrow\t24\t-\t1\t-\t16\nrow\t24\t-\t5\t-\t26\nrow\t24\t-\t6\t-\t24\nrow\t24\t-\t10\t-\t28\nrow\t24\t-\t11\t-\t24\nrow\t24\t-\t15\t-\t24\nrow\t24\t-\t16\t-\t8\nrow\t24\t-\t19\t-\t25\nrow\t25\t-\t0\t-\t25\nrow\t25\t-\t1\t-\t16\nrow\t25\t-\t5\t-\t27\nrow\t25\t-\t6\t-\t24\nrow\t25\t-\t10\t-\t29\nrow\t25\t-\t11\t-\t24\nrow\t25\t-\t15\t-\t25\nrow\t25\t-\t16\t-\t8\nrow\t26\t-\t0\t-\t26\nrow\t26\t-\t1\t-\t18\nrow\t26\t-\t5\t-\t26\nrow\t26\t-\t6\t-\t24\nrow\t26\t-\t10\t-\t30\nrow\t26\t-\t11\t-\t26\nrow\t26\t-\t15\t-\t26\nrow\t26\t-\t16\t-\t10\nrow\t26\t-\t19\t-\t27\nrow\t27\t-\t0\t-\t27\nrow\t27\t-\t1\t-\t18\nrow\t27\t-\t5\t-\t27\nrow\t27\t-\t6\t-\t24\nrow\t27\t-\t10\t-\t31\nrow\t27\t-\t11\t-\t26\nrow\t27\t-\t15\t-\t27\nrow\t27\t-\t16\t-\t10\nrow\t28\t-\t0\t-\t28\nrow\t28\t-\t1\t-\t20\nrow\t28\t-\t5\t-\t30\nrow\t28\t-\t6\t-\t28\nrow\t28\t-\t10\t-\t28\nrow\t28\t-\t11\t-\t24\nrow\t28\t-\t15\t-\t28\nrow\t28\t-\t16\t-\t12\nrow\t28\t-\t19\t-\t29\nrow\t29\t-\t0\t-\t29\nrow\t29\t-\t1\t-\t20\nrow\t29\t-\t5\t-\t31\nrow\t29\t-\t6\t-\t28\nrow\t29\t-\t10\t-\t29\nrow\t29\t-\t11\t-\t24\nrow\t29\t-\t15\t-\t29\nrow\t29\t-\t16\t-\t12\nrow\t30\t-\t0\t-\t30\nrow\t30\t-\t1\t-\t22\nrow\t30\t-\t5\t-\t30\nrow\t30\t-\t6\t-\t28\nrow\t30\t-\t10\t-\t30\nrow\t30\t-\t11\t-\t26\nrow\t30\t-\t15\t-\t30\nrow\t30\t-\t16\t-\t14\nrow\t30\t-\t19\t-\t31\nrow\t31\t-\t0\t-\t31\nrow\t31\t-\t1\t-\t22\nrow\t31\t-\t5\t-\t31\nrow\t31\t-\t6\t-\t28\nrow\t31\t-\t10\t-\t31\nrow\t31\t-\t11\t-\t26\nrow\t31\t-\t15\t-\t31\nrow\t31\t-\t16\t-\t14\n" }

unfoldable pub w7 : Worked
w7 = record { tree = "be\t63\n"; model = "comp\t9\t0\nact\t0\tout\nact\t1\tout\nact\t2\tuout\nact\t3\tuout\nclk\t0\t1\nclk\t1\t0\nrow\t0\t0\t0\t-\t4\nrow\t2\t1\t1\t0\t6\nrow\t3\t0\t0\t-\t4\nrow\t3\t-\t2\t-\t0\nrow\t4\t-\t2\t-\t1\nrow\t5\t1\t1\t0\t6\nrow\t5\t-\t2\t-\t2\nrow\t6\t0\t0\t-\t4\nrow\t6\t-\t3\t-\t0\nrow\t7\t-\t3\t-\t1\nrow\t8\t1\t1\t0\t6\nrow\t8\t-\t3\t-\t2\n" }

unfoldable pub w8 : Worked
w8 = record { tree = "be\t0\nbe\t1\nbe\t2\nbe\t3\npand\t4\t2\t0\npand\t5\t3\t1\nor\t6\t4\t0\nor\t7\t5\t1\nand\t8\t6\t7\nrbox\t9\t0\t1\t2\t3\n"; model = "comp\t9\t0\nact\t0\tout\nact\t1\tout\nact\t2\tuout\nact\t3\tuout\nact\t4\tuin\nclk\t0\t1\nclk\t1\t0\nrow\t0\t0\t0\t-\t4\nrow\t0\t-\t4\t-\t0\nrow\t1\t-\t4\t1\t2\nrow\t2\t1\t1\t0\t6\nrow\t2\t-\t4\t-\t2\nrow\t3\t0\t0\t-\t4\nrow\t3\t-\t2\t-\t0\nrow\t3\t-\t4\t-\t3\nrow\t4\t-\t2\t-\t1\nrow\t4\t-\t4\t1\t5\nrow\t5\t1\t1\t0\t6\nrow\t5\t-\t2\t-\t2\nrow\t5\t-\t4\t-\t5\nrow\t6\t0\t0\t-\t4\nrow\t6\t-\t3\t-\t0\nrow\t6\t-\t4\t-\t6\nrow\t7\t-\t3\t-\t1\nrow\t7\t-\t4\t1\t8\nrow\t8\t1\t1\t0\t6\nrow\t8\t-\t3\t-\t2\nrow\t8\t-\t4\t-\t8\ncomp\t9\t0\nact\t5\tout\nact\t6\tout\nact\t7\tuout\nact\t8\tuout\nact\t9\tuin\nclk\t2\t1\nclk\t3\t0\nrow\t0\t2\t5\t-\t4\nrow\t0\t-\t9\t-\t0\nrow\t1\t-\t9\t3\t2\nrow\t2\t3\t6\t2\t6\nrow\t2\t-\t9\t-\t2\nrow\t3\t2\t5\t-\t4\nrow\t3\t-\t7\t-\t0\nrow\t3\t-\t9\t-\t3\nrow\t4\t-\t7\t-\t1\nrow\t4\t-\t9\t3\t5\nrow\t5\t3\t6\t2\t6\nrow\t5\t-\t7\t-\t2\nrow\t5\t-\t9\t-\t5\nrow\t6\t2\t5\t-\t4\nrow\t6\t-\t8\t-\t0\nrow\t6\t-\t9\t-\t6\nrow\t7\t-\t8\t-\t1\nrow\t7\t-\t9\t3\t8\nrow\t8\t3\t6\t2\t6\nrow\t8\t-\t8\t-\t2\nrow\t8\t-\t9\t-\t8\ncomp\t9\t0\nact\t10\tout\nact\t11\tout\nact\t12\tuout\nact\t13\tuout\nact\t14\tuin\nclk\t4\t1\nclk\t5\t0\nrow\t0\t4\t10\t-\t4\nrow\t0\t-\t14\t-\t0\nrow\t1\t-\t14\t5\t2\nrow\t2\t5\t11\t4\t6\nrow\t2\t-\t14\t-\t2\nrow\t3\t4\t10\t-\t4\nrow\t3\t-\t12\t-\t0\nrow\t3\t-\t14\t-\t3\nrow\t4\t-\t12\t-\t1\nrow\t4\t-\t14\t5\t5\nrow\t5\t5\t11\t4\t6\nrow\t5\t-\t12\t-\t2\nrow\t5\t-\t14\t-\t5\nrow\t6\t4\t10\t-\t4\nrow\t6\t-\t13\t-\t0\nrow\t6\t-\t14\t-\t6\nrow\t7\t-\t13\t-\t1\nrow\t7\t-\t14\t5\t8\nrow\t8\t5\t11\t4\t6\nrow\t8\t-\t13\t-\t2\nrow\t8\t-\t14\t-\t8\ncomp\t9\t0\nact\t15\tout\nact\t16\tout\nact\t17\tuout\nact\t18\tuout\nact\t19\tuin\nclk\t6\t1\nclk\t7\t0\nrow\t0\t6\t15\t-\t4\nrow\t0\t-\t19\t-\t0\nrow\t1\t-\t19\t7\t2\nrow\t2\t7\t16\t6\t6\nrow\t2\t-\t19\t-\t2\nrow\t3\t6\t15\t-\t4\nrow\t3\t-\t17\t-\t0\nrow\t3\t-\t19\t-\t3\nrow\t4\t-\t17\t-\t1\nrow\t4\t-\t19\t7\t5\nrow\t5\t7\t16\t6\t6\nrow\t5\t-\t17\t-\t2\nrow\t5\t-\t19\t-\t5\nrow\t6\t6\t15\t-\t4\nrow\t6\t-\t18\t-\t0\nrow\t6\t-\t19\t-\t6\nrow\t7\t-\t18\t-\t1\nrow\t7\t-\t19\t7\t8\nrow\t8\t7\t16\t6\t6\nrow\t8\t-\t18\t-\t2\nrow\t8\t-\t19\t-\t8\ncomp\t20\t0\nact\t0\tin\nact\t1\tin\nact\t2\tuin\nact\t3\tuin\nact\t5\tin\nact\t6\tin\nact\t10\tin\nact\t11\tin\nact\t12\tuin\nact\t13\tuin\nact\t15\tin\nact\t16\tin\nact\t20\tuout\nact\t21\tuout\nrow\t0\t-\t0\t-\t0\nrow\t0\t-\t1\t-\t0\nrow\t0\t-\t2\t-\t5\nrow\t0\t-\t3\t-\t0\nrow\t0\t-\t5\t-\t0\nrow\t0\t-\t6\t-\t0\nrow\t0\t-\t10\t-\t0\nrow\t0\t-\t11\t-\t0\nrow\t0\t-\t12\t-\t10\nrow\t0\t-\t13\t-\t0\nrow\t0\t-\t15\t-\t0\nrow\t0\t-\t16\t-\t0\nrow\t1\t-\t0\t-\t1\nrow\t1\t-\t1\t-\t1\nrow\t1\t-\t2\t-\t6\nrow\t1\t-\t3\t-\t1\nrow\t1\t-\t5\t-\t1\nrow\t1\t-\t6\t-\t1\nrow\t1\t-\t10\t-\t1\nrow\t1\t-\t11\t-\t1\nrow\t1\t-\t12\t-\t11\nrow\t1\t-\t13\t-\t1\nrow\t1\t-\t15\t-\t1\nrow\t1\t-\t16\t-\t1\nrow\t1\t-\t20\t-\t2\nrow\t2\t-\t0\t-\t2\nrow\t2\t-\t1\t-\t2\nrow\t2\t-\t2\t-\t7\nrow\t2\t-\t3\t-\t2\nrow\t2\t-\t5\t-\t2\nrow\t2\t-\t6\t-\t2\nrow\t2\t-\t10\t-\t2\nrow\t2\t-\t11\t-\t2\nrow\t2\t-\t12\t-\t12\nrow\t2\t-\t13\t-\t2\nrow\t2\t-\t15\t-\t2\nrow\t2\t-\t16\t-\t2\nrow\t3\t-\t0\t-\t3\nrow\t3\t-\t1\t-\t3\nrow\t3\t-\t2\t-\t7\nrow\t3\t-\t3\t-\t3\nrow\t3\t-\t5\t-\t3\nrow\t3\t-\t6\t-\t3\nrow\t3\t-\t10\t-\t3\nrow\t3\t-\t11\t-\t3\nrow\t3\t-\t12\t-\t13\nrow\t3\t-\t13\t-\t3\nrow\t3\t-\t15\t-\t3\nrow\t3\t-\t16\t-\t3\nrow\t3\t-\t21\t-\t0\nrow\t4\t-\t0\t-\t4\nrow\t4\t-\t1\t-\t4\nrow\t4\t-\t2\t-\t9\nrow\t4\t-\t3\t-\t4\nrow\t4\t-\t5\t-\t4\nrow\t4\t-\t6\t-\t4\nrow\t4\t-\t10\t-\t4\nrow\t4\t-\t11\t-\t4\nrow\t4\t-\t12\t-\t14\nrow\t4\t-\t13\t-\t4\nrow\t4\t-\t15\t-\t4\nrow\t4\t-\t16\t-\t4\nrow\t5\t-\t0\t-\t9\nrow\t5\t-\t1\t-\t9\nrow\t5\t-\t2\t-\t5\nrow\t5\t-\t3\t-\t0\nrow\t5\t-\t5\t-\t9\nrow\t5\t-\t6\t-\t9\nrow\t5\t-\t10\t-\t9\nrow\t5\t-\t11\t-\t9\nrow\t5\t-\t12\t-\t16\nrow\t5\t-\t13\t-\t5\nrow\t5\t-\t15\t-\t9\nrow\t5\t-\t16\t-\t9\nrow\t6\t-\t0\t-\t6\nrow\t6\t-\t1\t-\t6\nrow\t6\t-\t2\t-\t6\nrow\t6\t-\t3\t-\t0\nrow\t6\t-\t5\t-\t6\nrow\t6\t-\t6\t-\t6\nrow\t6\t-\t10\t-\t6\nrow\t6\t-\t11\t-\t6\nrow\t6\t-\t12\t-\t16\nrow\t6\t-\t13\t-\t6\nrow\t6\t-\t15\t-\t6\nrow\t6\t-\t16\t-\t6\nrow\t6\t-\t20\t-\t7\nrow\t7\t-\t0\t-\t7\nrow\t7\t-\t1\t-\t7\nrow\t7\t-\t2\t-\t7\nrow\t7\t-\t3\t-\t3\nrow\t7\t-\t5\t-\t7\nrow\t7\t-\t6\t-\t7\nrow\t7\t-\t10\t-\t7\nrow\t7\t-\t11\t-\t7\nrow\t7\t-\t12\t-\t17\nrow\t7\t-\t13\t-\t7\nrow\t7\t-\t15\t-\t7\nrow\t7\t-\t16\t-\t7\nrow\t8\t-\t0\t-\t8\nrow\t8\t-\t1\t-\t8\nrow\t8\t-\t2\t-\t8\nrow\t8\t-\t3\t-\t3\nrow\t8\t-\t5\t-\t8\nrow\t8\t-\t6\t-\t8\nrow\t8\t-\t10\t-\t8\nrow\t8\t-\t11\t-\t8\nrow\t8\t-\t12\t-\t18\nrow\t8\t-\t13\t-\t8\nrow\t8\t-\t15\t-\t8\nrow\t8\t-\t16\t-\t8\nrow\t8\t-\t21\t-\t5\nrow\t9\t-\t0\t-\t9\nrow\t9\t-\t1\t-\t9\nrow\t9\t-\t2\t-\t9\nrow\t9\t-\t3\t-\t0\nrow\t9\t-\t5\t-\t9\nrow\t9\t-\t6\t-\t9\nrow\t9\t-\t10\t-\t9\nrow\t9\t-\t11\t-\t9\nrow\t9\t-\t12\t-\t19\nrow\t9\t-\t13\t-\t9\nrow\t9\t-\t15\t-\t9\nrow\t9\t-\t16\t-\t9\nrow\t10\t-\t0\t-\t10\nrow\t10\t-\t1\t-\t10\nrow\t10\t-\t2\t-\t16\nrow\t10\t-\t3\t-\t10\nrow\t10\t-\t5\t-\t10\nrow\t10\t-\t6\t-\t10\nrow\t10\t-\t10\t-\t10\nrow\t10\t-\t11\t-\t10\nrow\t10\t-\t12\t-\t10\nrow\t10\t-\t13\t-\t0\nrow\t10\t-\t15\t-\t10\nrow\t10\t-\t16\t-\t10\nrow\t11\t-\t0\t-\t11\nrow\t11\t-\t1\t-\t11\nrow\t11\t-\t2\t-\t16\nrow\t11\t-\t3\t-\t11\nrow\t11\t-\t5\t-\t11\nrow\t11\t-\t6\t-\t11\nrow\t11\t-\t10\t-\t11\nrow\t11\t-\t11\t-\t11\nrow\t11\t-\t12\t-\t11\nrow\t11\t-\t13\t-\t0\nrow\t11\t-\t15\t-\t11\nrow\t11\t-\t16\t-\t11\nrow\t11\t-\t20\t-\t12\nrow\t12\t-\t0\t-\t12\nrow\t12\t-\t1\t-\t12\nrow\t12\t-\t2\t-\t17\nrow\t12\t-\t3\t-\t12\nrow\t12\t-\t5\t-\t12\nrow\t12\t-\t6\t-\t12\nrow\t12\t-\t10\t-\t12\nrow\t12\t-\t11\t-\t12\nrow\t12\t-\t12\t-\t12\nrow\t12\t-\t13\t-\t2\nrow\t12\t-\t15\t-\t12\nrow\t12\t-\t16\t-\t12\nrow\t13\t-\t0\t-\t13\nrow\t13\t-\t1\t-\t13\nrow\t13\t-\t2\t-\t17\nrow\t13\t-\t3\t-\t13\nrow\t13\t-\t5\t-\t13\nrow\t13\t-\t6\t-\t13\nrow\t13\t-\t10\t-\t13\nrow\t13\t-\t11\t-\t13\nrow\t13\t-\t12\t-\t13\nrow\t13\t-\t13\t-\t3\nrow\t13\t-\t15\t-\t13\nrow\t13\t-\t16\t-\t13\nrow\t13\t-\t21\t-\t10\nrow\t14\t-\t0\t-\t14\nrow\t14\t-\t1\t-\t14\nrow\t14\t-\t2\t-\t19\nrow\t14\t-\t3\t-\t14\nrow\t14\t-\t5\t-\t14\nrow\t14\t-\t6\t-\t14\nrow\t14\t-\t10\t-\t14\nrow\t14\t-\t11\t-\t14\nrow\t14\t-\t12\t-\t14\nrow\t14\t-\t13\t-\t4\nrow\t14\t-\t15\t-\t14\nrow\t14\t-\t16\t-\t14\nrow\t15\t-\t0\t-\t15\nrow\t15\t-\t1\t-\t15\nrow\t15\t-\t2\t-\t15\nrow\t15\t-\t3\t-\t10\nrow\t15\t-\t5\t-\t15\nrow\t15\t-\t6\t-\t15\nrow\t15\t-\t10\t-\t15\nrow\t15\t-\t11\t-\t15\nrow\t15\t-\t12\t-\t15\nrow\t15\t-\t13\t-\t5\nrow\t15\t-\t15\t-\t15\nrow\t15\t-\t16\t-\t15\nrow\t16\t-\t0\t-\t16\nrow\t16\t-\t1\t-\t16\nrow\t16\t-\t2\t-\t16\nrow\t16\t-\t3\t-\t10\nrow\t16\t-\t5\t-\t16\nrow\t16\t-\t6\t-\t16\nrow\t16\t-\t10\t-\t16\nrow\t16\t-\t11\t-\t16\nrow\t16\t-\t12\t-\t16\nrow\t16\t-\t13\t-\t5\nrow\t16\t-\t15\t-\t16\nrow\t16\t-\t16\t-\t16\nrow\t16\t-\t20\t-\t17\nrow\t17\t-\t0\t-\t17\nrow\t17\t-\t1\t-\t17\nrow\t17\t-\t2\t-\t17\nrow\t17\t-\t3\t-\t13\nrow\t17\t-\t5\t-\t17\nrow\t17\t-\t6\t-\t17\nrow\t17\t-\t10\t-\t17\nrow\t17\t-\t11\t-\t17\nrow\t17\t-\t12\t-\t17\nrow\t17\t-\t13\t-\t7\nrow\t17\t-\t15\t-\t17\nrow\t17\t-\t16\t-\t17\nrow\t18\t-\t0\t-\t18\nrow\t18\t-\t1\t-\t18\nrow\t18\t-\t2\t-\t18\nrow\t18\t-\t3\t-\t13\nrow\t18\t-\t5\t-\t18\nrow\t18\t-\t6\t-\t18\nrow\t18\t-\t10\t-\t18\nrow\t18\t-\t11\t-\t18\nrow\t18\t-\t12\t-\t18\nrow\t18\t-\t13\t-\t8\nrow\t18\t-\t15\t-\t18\nrow\t18\t-\t16\t-\t18\nrow\t18\t-\t21\t-\t15\nrow\t19\t-\t0\t-\t19\nrow\t19\t-\t1\t-\t19\nrow\t19\t-\t2\t-\t19\nrow\t19\t-\t3\t-\t10\nrow\t19\t-\t5\t-\t19\nrow\t19\t-\t6\t-\t19\nrow\t19\t-\t10\t-\t19\nrow\t19\t-\t11\t-\t19\nrow\t19\t-\t12\t-\t19\nrow\t19\t-\t13\t-\t9\nrow\t19\t-\t15\t-\t19\nrow\t19\t-\t16\t-\t19\ncomp\t20\t0\nact\t0\tin\nact\t1\tin\nact\t5\tin\nact\t6\tin\nact\t7\tuin\nact\t8\tuin\nact\t10\tin\nact\t11\tin\nact\t15\tin\nact\t16\tin\nact\t17\tuin\nact\t18\tuin\nact\t22\tuout\nact\t23\tuout\nrow\t0\t-\t0\t-\t0\nrow\t0\t-\t1\t-\t0\nrow\t0\t-\t5\t-\t0\nrow\t0\t-\t6\t-\t0\nrow\t0\t-\t7\t-\t5\nrow\t0\t-\t8\t-\t0\nrow\t0\t-\t10\t-\t0\nrow\t0\t-\t11\t-\t0\nrow\t0\t-\t15\t-\t0\nrow\t0\t-\t16\t-\t0\nrow\t0\t-\t17\t-\t10\nrow\t0\t-\t18\t-\t0\nrow\t1\t-\t0\t-\t1\nrow\t1\t-\t1\t-\t1\nrow\t1\t-\t5\t-\t1\nrow\t1\t-\t6\t-\t1\nrow\t1\t-\t7\t-\t6\nrow\t1\t-\t8\t-\t1\nrow\t1\t-\t10\t-\t1\nrow\t1\t-\t11\t-\t1\nrow\t1\t-\t15\t-\t1\nrow\t1\t-\t16\t-\t1\nrow\t1\t-\t17\t-\t11\nrow\t1\t-\t18\t-\t1\nrow\t1\t-\t22\t-\t2\nrow\t2\t-\t0\t-\t2\nrow\t2\t-\t1\t-\t2\nrow\t2\t-\t5\t-\t2\nrow\t2\t-\t6\t-\t2\nrow\t2\t-\t7\t-\t7\nrow\t2\t-\t8\t-\t2\nrow\t2\t-\t10\t-\t2\nrow\t2\t-\t11\t-\t2\nrow\t2\t-\t15\t-\t2\nrow\t2\t-\t16\t-\t2\nrow\t2\t-\t17\t-\t12\nrow\t2\t-\t18\t-\t2\nrow\t3\t-\t0\t-\t3\nrow\t3\t-\t1\t-\t3\nrow\t3\t-\t5\t-\t3\nrow\t3\t-\t6\t-\t3\nrow\t3\t-\t7\t-\t7\nrow\t3\t-\t8\t-\t3\nrow\t3\t-\t10\t-\t3\nrow\t3\t-\t11\t-\t3\nrow\t3\t-\t15\t-\t3\nrow\t3\t-\t16\t-\t3\nrow\t3\t-\t17\t-\t13\nrow\t3\t-\t18\t-\t3\nrow\t3\t-\t23\t-\t0\nrow\t4\t-\t0\t-\t4\nrow\t4\t-\t1\t-\t4\nrow\t4\t-\t5\t-\t4\nrow\t4\t-\t6\t-\t4\nrow\t4\t-\t7\t-\t9\nrow\t4\t-\t8\t-\t4\nrow\t4\t-\t10\t-\t4\nrow\t4\t-\t11\t-\t4\nrow\t4\t-\t15\t-\t4\nrow\t4\t-\t16\t-\t4\nrow\t4\t-\t17\t-\t14\nrow\t4\t-\t18\t-\t4\nrow\t5\t-\t0\t-\t9\nrow\t5\t-\t1\t-\t9\nrow\t5\t-\t5\t-\t9\nrow\t5\t-\t6\t-\t9\nrow\t5\t-\t7\t-\t5\nrow\t5\t-\t8\t-\t0\nrow\t5\t-\t10\t-\t9\nrow\t5\t-\t11\t-\t9\nrow\t5\t-\t15\t-\t9\nrow\t5\t-\t16\t-\t9\nrow\t5\t-\t17\t-\t16\nrow\t5\t-\t18\t-\t5\nrow\t6\t-\t0\t-\t6\nrow\t6\t-\t1\t-\t6\nrow\t6\t-\t5\t-\t6\nrow\t6\t-\t6\t-\t6\nrow\t6\t-\t7\t-\t6\nrow\t6\t-\t8\t-\t0\nrow\t6\t-\t10\t-\t6\nrow\t6\t-\t11\t-\t6\nrow\t6\t-\t15\t-\t6\nrow\t6\t-\t16\t-\t6\nrow\t6\t-\t17\t-\t16\nrow\t6\t-\t18\t-\t6\nrow\t6\t-\t22\t-\t7\nrow\t7\t-\t0\t-\t7\nrow\t7\t-\t1\t-\t7\nrow\t7\t-\t5\t-\t7\nrow\t7\t-\t6\t-\t7\nrow\t7\t-\t7\t-\t7\nrow\t7\t-\t8\t-\t3\nrow\t7\t-\t10\t-\t7\nrow\t7\t-\t11\t-\t7\nrow\t7\t-\t15\t-\t7\nrow\t7\t-\t16\t-\t7\nrow\t7\t-\t17\t-\t17\nrow\t7\t-\t18\t-\t7\nrow\t8\t-\t0\t-\t8\nrow\t8\t-\t1\t-\t8\nrow\t8\t-\t5\t-\t8\nrow\t8\t-\t6\t-\t8\nrow\t8\t-\t7\t-\t8\nrow\t8\t-\t8\t-\t3\nrow\t8\t-\t10\t-\t8\nrow\t8\t-\t11\t-\t8\nrow\t8\t-\t15\t-\t8\nrow\t8\t-\t16\t-\t8\nrow\t8\t-\t17\t-\t18\nrow\t8\t-\t18\t-\t8\nrow\t8\t-\t23\t-\t5\nrow\t9\t-\t0\t-\t9\nrow\t9\t-\t1\t-\t9\nrow\t9\t-\t5\t-\t9\nrow\t9\t-\t6\t-\t9\nrow\t9\t-\t7\t-\t9\nrow\t9\t-\t8\t-\t0\nrow\t9\t-\t10\t-\t9\nrow\t9\t-\t11\t-\t9\nrow\t9\t-\t15\t-\t9\nrow\t9\t-\t16\t-\t9\nrow\t9\t-\t17\t-\t19\nrow\t9\t-\t18\t-\t9\nrow\t10\t-\t0\t-\t10\nrow\t10\t-\t1\t-\t10\nrow\t10\t-\t5\t-\t10\nrow\t10\t-\t6\t-\t10\nrow\t10\t-\t7\t-\t16\nrow\t10\t-\t8\t-\t10\nrow\t10\t-\t10\t-\t10\nrow\t10\t-\t11\t-\t10\nrow\t10\t-\t15\t-\t10\nrow\t10\t-\t16\t-\t10\nrow\t10\t-\t17\t-\t10\nrow\t10\t-\t18\t-\t0\nrow\t11\t-\t0\t-\t11\nrow\t11\t-\t1\t-\t11\nrow\t11\t-\t5\t-\t11\nrow\t11\t-\t6\t-\t11\nrow\t11\t-\t7\t-\t16\nrow\t11\t-\t8\t-\t11\nrow\t11\t-\t10\t-\t11\nrow\t11\t-\t11\t-\t11\nrow\t11\t-\t15\t-\t11\nrow\t11\t-\t16\t-\t11\nrow\t11\t-\t17\t-\t11\nrow\t11\t-\t18\t-\t0\nrow\t11\t-\t22\t-\t12\nrow\t12\t-\t0\t-\t12\nrow\t12\t-\t1\t-\t12\nrow\t12\t-\t5\t-\t12\nrow\t12\t-\t6\t-\t12\nrow\t12\t-\t7\t-\t17\nrow\t12\t-\t8\t-\t12\nrow\t12\t-\t10\t-\t12\nrow\t12\t-\t11\t-\t12\nrow\t12\t-\t15\t-\t12\nrow\t12\t-\t16\t-\t12\nrow\t12\t-\t17\t-\t12\nrow\t12\t-\t18\t-\t2\nrow\t13\t-\t0\t-\t13\nrow\t13\t-\t1\t-\t13\nrow\t13\t-\t5\t-\t13\nrow\t13\t-\t6\t-\t13\nrow\t13\t-\t7\t-\t17\nrow\t13\t-\t8\t-\t13\nrow\t13\t-\t10\t-\t13\nrow\t13\t-\t11\t-\t13\nrow\t13\t-\t15\t-\t13\nrow\t13\t-\t16\t-\t13\nrow\t13\t-\t17\t-\t13\nrow\t13\t-\t18\t-\t3\nrow\t13\t-\t23\t-\t10\nrow\t14\t-\t0\t-\t14\nrow\t14\t-\t1\t-\t14\nrow\t14\t-\t5\t-\t14\nrow\t14\t-\t6\t-\t14\nrow\t14\t-\t7\t-\t19\nrow\t14\t-\t8\t-\t14\nrow\t14\t-\t10\t-\t14\nrow\t14\t-\t11\t-\t14\nrow\t14\t-\t15\t-\t14\nrow\t14\t-\t16\t-\t14\nrow\t14\t-\t17\t-\t14\nrow\t14\t-\t18\t-\t4\nrow\t15\t-\t0\t-\t15\nrow\t15\t-\t1\t-\t15\nrow\t15\t-\t5\t-\t15\nrow\t15\t-\t6\t-\t15\nrow\t15\t-\t7\t-\t15\nrow\t15\t-\t8\t-\t10\nrow\t15\t-\t10\t-\t15\nrow\t15\t-\t11\t-\t15\nrow\t15\t-\t15\t-\t15\nrow\t15\t-\t16\t-\t15\nrow\t15\t-\t17\t-\t15\nrow\t15\t-\t18\t-\t5\nrow\t16\t-\t0\t-\t16\nrow\t16\t-\t1\t-\t16\nrow\t16\t-\t5\t-\t16\nrow\t16\t-\t6\t-\t16\nrow\t16\t-\t7\t-\t16\nrow\t16\t-\t8\t-\t10\nrow\t16\t-\t10\t-\t16\nrow\t16\t-\t11\t-\t16\nrow\t16\t-\t15\t-\t16\nrow\t16\t-\t16\t-\t16\nrow\t16\t-\t17\t-\t16\nrow\t16\t-\t18\t-\t5\nrow\t16\t-\t22\t-\t17\nrow\t17\t-\t0\t-\t17\nrow\t17\t-\t1\t-\t17\nrow\t17\t-\t5\t-\t17\nrow\t17\t-\t6\t-\t17\nrow\t17\t-\t7\t-\t17\nrow\t17\t-\t8\t-\t13\nrow\t17\t-\t10\t-\t17\nrow\t17\t-\t11\t-\t17\nrow\t17\t-\t15\t-\t17\nrow\t17\t-\t16\t-\t17\nrow\t17\t-\t17\t-\t17\nrow\t17\t-\t18\t-\t7\nrow\t18\t-\t0\t-\t18\nrow\t18\t-\t1\t-\t18\nrow\t18\t-\t5\t-\t18\nrow\t18\t-\t6\t-\t18\nrow\t18\t-\t7\t-\t18\nrow\t18\t-\t8\t-\t13\nrow\t18\t-\t10\t-\t18\nrow\t18\t-\t11\t-\t18\nrow\t18\t-\t15\t-\t18\nrow\t18\t-\t16\t-\t18\nrow\t18\t-\t17\t-\t18\nrow\t18\t-\t18\t-\t8\nrow\t18\t-\t23\t-\t15\nrow\t19\t-\t0\t-\t19\nrow\t19\t-\t1\t-\t19\nrow\t19\t-\t5\t-\t19\nrow\t19\t-\t6\t-\t19\nrow\t19\t-\t7\t-\t19\nrow\t19\t-\t8\t-\t10\nrow\t19\t-\t10\t-\t19\nrow\t19\t-\t11\t-\t19\nrow\t19\t-\t15\t-\t19\nrow\t19\t-\t16\t-\t19\nrow\t19\t-\t17\t-\t19\nrow\t19\t-\t18\t-\t9\ncomp\t12\t0\nact\t2\tuin\nact\t3\tuin\nact\t20\tuin\nact\t21\tuin\nact\t24\tuout\nact\t25\tuout\nrow\t0\t-\t2\t-\t7\nrow\t0\t-\t3\t-\t0\nrow\t0\t-\t20\t-\t7\nrow\t0\t-\t21\t-\t0\nrow\t1\t-\t2\t-\t2\nrow\t1\t-\t3\t-\t3\nrow\t1\t-\t20\t-\t2\nrow\t1\t-\t21\t-\t3\nrow\t2\t-\t2\t-\t2\nrow\t2\t-\t3\t-\t1\nrow\t2\t-\t20\t-\t2\nrow\t2\t-\t21\t-\t1\nrow\t3\t-\t2\t-\t10\nrow\t3\t-\t3\t-\t3\nrow\t3\t-\t20\t-\t10\nrow\t3\t-\t21\t-\t3\nrow\t3\t-\t25\t-\t0\nrow\t4\t-\t2\t-\t5\nrow\t4\t-\t3\t-\t3\nrow\t4\t-\t20\t-\t5\nrow\t4\t-\t21\t-\t3\nrow\t5\t-\t2\t-\t5\nrow\t5\t-\t3\t-\t4\nrow\t5\t-\t20\t-\t5\nrow\t5\t-\t21\t-\t4\nrow\t6\t-\t2\t-\t7\nrow\t6\t-\t3\t-\t6\nrow\t6\t-\t20\t-\t7\nrow\t6\t-\t21\t-\t6\nrow\t7\t-\t2\t-\t8\nrow\t7\t-\t3\t-\t9\nrow\t7\t-\t20\t-\t8\nrow\t7\t-\t21\t-\t9\nrow\t7\t-\t24\t-\t1\nrow\t8\t-\t2\t-\t8\nrow\t8\t-\t3\t-\t7\nrow\t8\t-\t20\t-\t8\nrow\t8\t-\t21\t-\t7\nrow\t8\t-\t24\t-\t2\nrow\t9\t-\t2\t-\t10\nrow\t9\t-\t3\t-\t9\nrow\t9\t-\t20\t-\t10\nrow\t9\t-\t21\t-\t9\nrow\t9\t-\t25\t-\t6\nrow\t10\t-\t2\t-\t11\nrow\t10\t-\t3\t-\t9\nrow\t10\t-\t20\t-\t11\nrow\t10\t-\t21\t-\t9\nrow\t10\t-\t24\t-\t4\nrow\t11\t-\t2\t-\t11\nrow\t11\t-\t3\t-\t10\nrow\t11\t-\t20\t-\t11\nrow\t11\t-\t21\t-\t10\nrow\t11\t-\t24\t-\t5\ncomp\t12\t0\nact\t7\tuin\nact\t8\tuin\nact\t22\tuin\nact\t23\tuin\nact\t26\tuout\nact\t27\tuout\nrow\t0\t-\t7\t-\t7\nrow\t0\t-\t8\t-\t0\nrow\t0\t-\t22\t-\t7\nrow\t0\t-\t23\t-\t0\nrow\t1\t-\t7\t-\t2\nrow\t1\t-\t8\t-\t3\nrow\t1\t-\t22\t-\t2\nrow\t1\t-\t23\t-\t3\nrow\t2\t-\t7\t-\t2\nrow\t2\t-\t8\t-\t1\nrow\t2\t-\t22\t-\t2\nrow\t2\t-\t23\t-\t1\nrow\t3\t-\t7\t-\t10\nrow\t3\t-\t8\t-\t3\nrow\t3\t-\t22\t-\t10\nrow\t3\t-\t23\t-\t3\nrow\t3\t-\t27\t-\t0\nrow\t4\t-\t7\t-\t5\nrow\t4\t-\t8\t-\t3\nrow\t4\t-\t22\t-\t5\nrow\t4\t-\t23\t-\t3\nrow\t5\t-\t7\t-\t5\nrow\t5\t-\t8\t-\t4\nrow\t5\t-\t22\t-\t5\nrow\t5\t-\t23\t-\t4\nrow\t6\t-\t7\t-\t7\nrow\t6\t-\t8\t-\t6\nrow\t6\t-\t22\t-\t7\nrow\t6\t-\t23\t-\t6\nrow\t7\t-\t7\t-\t8\nrow\t7\t-\t8\t-\t9\nrow\t7\t-\t22\t-\t8\nrow\t7\t-\t23\t-\t9\nrow\t7\t-\t26\t-\t1\nrow\t8\t-\t7\t-\t8\nrow\t8\t-\t8\t-\t7\nrow\t8\t-\t22\t-\t8\nrow\t8\t-\t23\t-\t7\nrow\t8\t-\t26\t-\t2\nrow\t9\t-\t7\t-\t10\nrow\t9\t-\t8\t-\t9\nrow\t9\t-\t22\t-\t10\nrow\t9\t-\t23\t-\t9\nrow\t9\t-\t27\t-\t6\nrow\t10\t-\t7\t-\t11\nrow\t10\t-\t8\t-\t9\nrow\t10\t-\t22\t-\t11\nrow\t10\t-\t23\t-\t9\nrow\t10\t-\t26\t-\t4\nrow\t11\t-\t7\t-\t11\nrow\t11\t-\t8\t-\t10\nrow\t11\t-\t22\t-\t11\nrow\t11\t-\t23\t-\t10\nrow\t11\t-\t26\t-\t5\ncomp\t12\t0\nact\t24\tuin\nact\t25\tuin\nact\t26\tuin\nact\t27\tuin\nact\t28\tuout\nact\t29\tuout\nrow\t0\t-\t24\t-\t1\nrow\t0\t-\t25\t-\t0\nrow\t0\t-\t26\t-\t1\nrow\t0\t-\t27\t-\t0\nrow\t1\t-\t24\t-\t8\nrow\t1\t-\t25\t-\t0\nrow\t1\t-\t26\t-\t8\nrow\t1\t-\t27\t-\t0\nrow\t2\t-\t24\t-\t2\nrow\t2\t-\t25\t-\t4\nrow\t2\t-\t26\t-\t2\nrow\t2\t-\t27\t-\t4\nrow\t3\t-\t24\t-\t4\nrow\t3\t-\t25\t-\t3\nrow\t3\t-\t26\t-\t4\nrow\t3\t-\t27\t-\t3\nrow\t3\t-\t29\t-\t0\nrow\t4\t-\t24\t-\t11\nrow\t4\t-\t25\t-\t3\nrow\t4\t-\t26\t-\t11\nrow\t4\t-\t27\t-\t3\nrow\t4\t-\t29\t-\t1\nrow\t5\t-\t24\t-\t5\nrow\t5\t-\t25\t-\t4\nrow\t5\t-\t26\t-\t5\nrow\t5\t-\t27\t-\t4\nrow\t6\t-\t24\t-\t7\nrow\t6\t-\t25\t-\t6\nrow\t6\t-\t26\t-\t7\nrow\t6\t-\t27\t-\t6\nrow\t7\t-\t24\t-\t8\nrow\t7\t-\t25\t-\t6\nrow\t7\t-\t26\t-\t8\nrow\t7\t-\t27\t-\t6\nrow\t8\t-\t24\t-\t8\nrow\t8\t-\t25\t-\t10\nrow\t8\t-\t26\t-\t8\nrow\t8\t-\t27\t-\t10\nrow\t8\t-\t28\t-\t2\nrow\t9\t-\t24\t-\t10\nrow\t9\t-\t25\t-\t9\nrow\t9\t-\t26\t-\t10\nrow\t9\t-\t27\t-\t9\nrow\t9\t-\t29\t-\t6\nrow\t10\t-\t24\t-\t11\nrow\t10\t-\t25\t-\t9\nrow\t10\t-\t26\t-\t11\nrow\t10\t-\t27\t-\t9\nrow\t10\t-\t29\t-\t7\nrow\t11\t-\t24\t-\t11\nrow\t11\t-\t25\t-\t10\nrow\t11\t-\t26\t-\t11\nrow\t11\t-\t27\t-\t10\nrow\t11\t-\t28\t-\t5\ncomp\t32\t0\nact\t0\tin\nact\t1\tin\nact\t4\tuout\nact\t5\tin\nact\t6\tin\nact\t9\tuout\nact\t10\tin\nact\t11\tin\nact\t14\tuout\nact\t15\tin\nact\t16\tin\nact\t19\tuout\nrow\t0\t-\t0\t-\t16\nrow\t0\t-\t1\t-\t0\nrow\t0\t-\t5\t-\t8\nrow\t0\t-\t6\t-\t0\nrow\t0\t-\t10\t-\t4\nrow\t0\t-\t11\t-\t0\nrow\t0\t-\t15\t-\t2\nrow\t0\t-\t16\t-\t0\nrow\t1\t-\t0\t-\t17\nrow\t1\t-\t1\t-\t0\nrow\t1\t-\t5\t-\t9\nrow\t1\t-\t6\t-\t0\nrow\t1\t-\t10\t-\t5\nrow\t1\t-\t11\t-\t0\nrow\t1\t-\t15\t-\t3\nrow\t1\t-\t16\t-\t0\nrow\t2\t-\t0\t-\t18\nrow\t2\t-\t1\t-\t2\nrow\t2\t-\t5\t-\t10\nrow\t2\t-\t6\t-\t2\nrow\t2\t-\t10\t-\t6\nrow\t2\t-\t11\t-\t2\nrow\t2\t-\t15\t-\t2\nrow\t2\t-\t16\t-\t0\nrow\t2\t-\t19\t-\t3\nrow\t3\t-\t0\t-\t19\nrow\t3\t-\t1\t-\t2\nrow\t3\t-\t5\t-\t11\nrow\t3\t-\t6\t-\t2\nrow\t3\t-\t10\t-\t7\nrow\t3\t-\t11\t-\t2\nrow\t3\t-\t15\t-\t3\nrow\t3\t-\t16\t-\t0\nrow\t4\t-\t0\t-\t20\nrow\t4\t-\t1\t-\t4\nrow\t4\t-\t5\t-\t12\nrow\t4\t-\t6\t-\t4\nrow\t4\t-\t10\t-\t4\nrow\t4\t-\t11\t-\t0\nrow\t4\t-\t14\t-\t5\nrow\t4\t-\t15\t-\t6\nrow\t4\t-\t16\t-\t4\nrow\t5\t-\t0\t-\t21\nrow\t5\t-\t1\t-\t4\nrow\t5\t-\t5\t-\t13\nrow\t5\t-\t6\t-\t4\nrow\t5\t-\t10\t-\t5\nrow\t5\t-\t11\t-\t0\nrow\t5\t-\t15\t-\t7\nrow\t5\t-\t16\t-\t4\nrow\t6\t-\t0\t-\t22\nrow\t6\t-\t1\t-\t6\nrow\t6\t-\t5\t-\t14\nrow\t6\t-\t6\t-\t6\nrow\t6\t-\t10\t-\t6\nrow\t6\t-\t11\t-\t2\nrow\t6\t-\t14\t-\t7\nrow\t6\t-\t15\t-\t6\nrow\t6\t-\t16\t-\t4\nrow\t7\t-\t0\t-\t23\nrow\t7\t-\t1\t-\t6\nrow\t7\t-\t5\t-\t15\nrow\t7\t-\t6\t-\t6\nrow\t7\t-\t10\t-\t7\nrow\t7\t-\t11\t-\t2\nrow\t7\t-\t15\t-\t7\nrow\t7\t-\t16\t-\t4\nrow\t8\t-\t0\t-\t24\nrow\t8\t-\t1\t-\t8\nrow\t8\t-\t5\t-\t8\nrow\t8\t-\t6\t-\t0\nrow\t8\t-\t9\t-\t9\nrow\t8\t-\t10\t-\t12\nrow\t8\t-\t11\t-\t8\nrow\t8\t-\t15\t-\t10\nrow\t8\t-\t16\t-\t8\nrow\t9\t-\t0\t-\t25\nrow\t9\t-\t1\t-\t8\nrow\t9\t-\t5\t-\t9\nrow\t9\t-\t6\t-\t0\nrow\t9\t-\t10\t-\t13\nrow\t9\t-\t11\t-\t8\nrow\t9\t-\t15\t-\t11\nrow\t9\t-\t16\t-\t8\nrow\t10\t-\t0\t-\t26\nrow\t10\t-\t1\t-\t10\nrow\t10\t-\t5\t-\t10\nrow\t10\t-\t6\t-\t2\nrow\t10\t-\t9\t-\t11\nrow\t10\t-\t10\t-\t14\nrow\t10\t-\t11\t-\t10\nrow\t10\t-\t15\t-\t10\nrow\t10\t-\t16\t-\t8\nrow\t11\t-\t0\t-\t27\nrow\t11\t-\t1\t-\t10\nrow\t11\t-\t5\t-\t11\nrow\t11\t-\t6\t-\t2\nrow\t11\t-\t10\t-\t15\nrow\t11\t-\t11\t-\t10\nrow\t11\t-\t15\t-\t11\nrow\t11\t-\t16\t-\t8\nrow\t12\t-\t0\t-\t28\nrow\t12\t-\t1\t-\t12\nrow\t12\t-\t5\t-\t12\nrow\t12\t-\t6\t-\t4\nrow\t12\t-\t9\t-\t13\nrow\t12\t-\t10\t-\t12\nrow\t12\t-\t11\t-\t8\nrow\t12\t-\t15\t-\t14\nrow\t12\t-\t16\t-\t12\nrow\t13\t-\t0\t-\t29\nrow\t13\t-\t1\t-\t12\nrow\t13\t-\t5\t-\t13\nrow\t13\t-\t6\t-\t4\nrow\t13\t-\t10\t-\t13\nrow\t13\t-\t11\t-\t8\nrow\t13\t-\t15\t-\t15\nrow\t13\t-\t16\t-\t12\nrow\t14\t-\t0\t-\t30\nrow\t14\t-\t1\t-\t14\nrow\t14\t-\t5\t-\t14\nrow\t14\t-\t6\t-\t6\nrow\t14\t-\t9\t-\t15\nrow\t14\t-\t10\t-\t14\nrow\t14\t-\t11\t-\t10\nrow\t14\t-\t15\t-\t14\nrow\t14\t-\t16\t-\t12\nrow\t15\t-\t0\t-\t31\nrow\t15\t-\t1\t-\t14\nrow\t15\t-\t5\t-\t15\nrow\t15\t-\t6\t-\t6\nrow\t15\t-\t10\t-\t15\nrow\t15\t-\t11\t-\t10\nrow\t15\t-\t15\t-\t15\nrow\t15\t-\t16\t-\t12\nrow\t16\t-\t0\t-\t16\nrow\t16\t-\t1\t-\t0\nrow\t16\t-\t4\t-\t17\nrow\t16\t-\t5\t-\t24\nrow\t16\t-\t6\t-\t16\nrow\t16\t-\t10\t-\t20\nrow\t16\t-\t11\t-\t16\nrow\t16\t-\t15\t-\t18\nrow\t16\t-\t16\t-\t16\nrow\t17\t-\t0\t-\t17\nrow\t17\t-\t1\t-\t0\nrow\t17\t-\t5\t-\t25\nrow\t17\t-\t6\t-\t16\nrow\t17\t-\t10\t-\t21\nrow\t17\t-\t11\t-\t16\nrow\t17\t-\t15\t-\t19\nrow\t17\t-\t16\t-\t16\nrow\t18\t-\t0\t-\t18\nrow\t18\t-\t1\t-\t2\nrow\t18\t-\t4\t-\t19\nrow\t18\t-\t5\t-\t26\nrow\t18\t-\t6\t-\t18\nrow\t18\t-\t10\t-\t22\nrow\t18\t-\t11\t-\t18\nrow\t18\t-\t15\t-\t18\nrow\t18\t-\t16\t-\t16\nrow\t19\t-\t0\t-\t19\nrow\t19\t-\t1\t-\t2\nrow\t19\t-\t5\t-\t27\nrow\t19\t-\t6\t-\t18\nrow\t19\t-\t10\t-\t23\nrow\t19\t-\t11\t-\t18\nrow\t19\t-\t15\t-\t19\nrow\t19\t-\t16\t-\t16\nrow\t20\t-\t0\t-\t20\nrow\t20\t-\t1\t-\t4\nrow\t20\t-\t4\t-\t21\nrow\t20\t-\t5\t-\t28\nrow\t20\t-\t6\t-\t20\nrow\t20\t-\t10\t-\t20\nrow\t20\t-\t11\t-\t16\nrow\t20\t-\t15\t-\t22\nrow\t20\t-\t16\t-\t20\nrow\t21\t-\t0\t-\t21\nrow\t21\t-\t1\t-\t4\nrow\t21\t-\t5\t-\t29\nrow\t21\t-\t6\t-\t20\nrow\t21\t-\t10\t-\t21\nrow\t21\t-\t11\t-\t16\nrow\t21\t-\t15\t-\t23\nrow\t21\t-\t16\t-\t20\nrow\t22\t-\t0\t-\t22\nrow\t22\t-\t1\t-\t6\nrow\t22\t-\t4\t-\t23\nrow\t22\t-\t5\t-\t30\nrow\t22\t-\t6\t-\t22\nrow\t22\t-\t10\t-\t22\nrow\t22\t-\t11\t-\t18\nrow\t22\t-\t15\t-\t22\nrow\t22\t-\t16\t-\t20\nrow\t23\t-\t0\t-\t23\nrow\t23\t-\t1\t-\t6\nrow\t23\t-\t5\t-\t31\nrow\t23\t-\t6\t-\t22\nrow\t23\t-\t10\t-\t23\nrow\t23\t-\t11\t-\t18\nrow\t23\t-\t15\t-\t23\nrow\t23\t-\t16\t-\t20\nrow\t24\t-\t0\t-\t24\nrow\t24\t-\t1\t-\t8\nrow\t24\t-\t4\t-\t25\nrow\t24\t-\t5\t-\t24\nrow\t24\t-\t6\t-\t16\nrow\t24\t-\t10\t-\t28\nrow\t24\t-\t11\t-\t24\nrow\t24\t-\t15\t-\t26\nrow\t24\t-\t16\t-\t24\nrow\t25\t-\t0\t-\t25\nrow\t25\t-\t1\t-\t8\nrow\t25\t-\t5\t-\t25\nrow\t25\t-\t6\t-\t16\nrow\t25\t-\t10\t-\t29\nrow\t25\t-\t11\t-\t24\nrow\t25\t-\t15\t-\t27\nrow\t25\t-\t16\t-\t24\nrow\t26\t-\t0\t-\t26\nrow\t26\t-\t1\t-\t10\nrow\t26\t-\t4\t-\t27\nrow\t26\t-\t5\t-\t26\nrow\t26\t-\t6\t-\t18\nrow\t26\t-\t10\t-\t30\nrow\t26\t-\t11\t-\t26\nrow\t26\t-\t15\t-\t26\nrow\t26\t-\t16\t-\t24\nrow\t27\t-\t0\t-\t27\nrow\t27\t-\t1\t-\t10\nrow\t27\t-\t5\t-\t27\nrow\t27\t-\t6\t-\t18\nrow\t27\t-\t10\t-\t31\nrow\t27\t-\t11\t-\t26\nrow\t27\t-\t15\t-\t27\nrow\t27\t-\t16\t-\t24\nrow\t28\t-\t0\t-\t28\nrow\t28\t-\t1\t-\t12\nrow\t28\t-\t4\t-\t29\nrow\t28\t-\t5\t-\t28\nrow\t28\t-\t6\t-\t20\nrow\t28\t-\t10\t-\t28\nrow\t28\t-\t11\t-\t24\nrow\t28\t-\t15\t-\t30\nrow\t28\t-\t16\t-\t28\nrow\t29\t-\t0\t-\t29\nrow\t29\t-\t1\t-\t12\nrow\t29\t-\t5\t-\t29\nrow\t29\t-\t6\t-\t20\nrow\t29\t-\t10\t-\t29\nrow\t29\t-\t11\t-\t24\nrow\t29\t-\t15\t-\t31\nrow\t29\t-\t16\t-\t28\nrow\t30\t-\t0\t-\t30\nrow\t30\t-\t1\t-\t14\nrow\t30\t-\t4\t-\t31\nrow\t30\t-\t5\t-\t30\nrow\t30\t-\t6\t-\t22\nrow\t30\t-\t10\t-\t30\nrow\t30\t-\t11\t-\t26\nrow\t30\t-\t15\t-\t30\nrow\t30\t-\t16\t-\t28\nrow\t31\t-\t0\t-\t31\nrow\t31\t-\t1\t-\t14\nrow\t31\t-\t5\t-\t31\nrow\t31\t-\t6\t-\t22\nrow\t31\t-\t10\t-\t31\nrow\t31\t-\t11\t-\t26\nrow\t31\t-\t15\t-\t31\nrow\t31\t-\t16\t-\t28\n" }

unfoldable pub w9 : Worked
w9 = record { tree = "be\t0\nbe\t1\npand\t2\t0\t1\nbe\t3\nrbox\t4\t3\n"; model = "comp\t9\t0\nact\t0\tout\nact\t1\tout\nact\t2\tuout\nact\t3\tuout\nclk\t0\t1\nclk\t1\t0\nrow\t0\t0\t0\t-\t4\nrow\t2\t1\t1\t0\t6\nrow\t3\t0\t0\t-\t4\nrow\t3\t-\t2\t-\t0\nrow\t4\t-\t2\t-\t1\nrow\t5\t1\t1\t0\t6\nrow\t5\t-\t2\t-\t2\nrow\t6\t0\t0\t-\t4\nrow\t6\t-\t3\t-\t0\nrow\t7\t-\t3\t-\t1\nrow\t8\t1\t1\t0\t6\nrow\t8\t-\t3\t-\t2\ncomp\t9\t0\nact\t4\tout\nact\t5\tout\nact\t6\tuout\nact\t7\tuout\nclk\t2\t1\nclk\t3\t0\nrow\t0\t2\t4\t-\t4\nrow\t2\t3\t5\t2\t6\nrow\t3\t2\t4\t-\t4\nrow\t3\t-\t6\t-\t0\nrow\t4\t-\t6\t-\t1\nrow\t5\t3\t5\t2\t6\nrow\t5\t-\t6\t-\t2\nrow\t6\t2\t4\t-\t4\nrow\t6\t-\t7\t-\t0\nrow\t7\t-\t7\t-\t1\nrow\t8\t3\t5\t2\t6\nrow\t8\t-\t7\t-\t2\ncomp\t20\t0\nact\t0\tin\nact\t1\tin\nact\t2\tuin\nact\t3\tuin\nact\t4\tin\nact\t5\tin\nact\t6\tuin\nact\t7\tuin\nact\t8\tuout\nact\t9\tuout\nact\t10\tin\nact\t11\tin\nrow\t0\t-\t0\t-\t0\nrow\t0\t-\t1\t-\t0\nrow\t0\t-\t2\t-\t10\nrow\t0\t-\t3\t-\t0\nrow\t0\t-\t4\t-\t0\nrow\t0\t-\t5\t-\t0\nrow\t0\t-\t6\t-\t5\nrow\t0\t-\t7\t-\t0\nrow\t0\t-\t10\t-\t0\nrow\t0\t-\t11\t-\t0\nrow\t1\t-\t0\t-\t1\nrow\t1\t-\t1\t-\t1\nrow\t1\t-\t2\t-\t11\nrow\t1\t-\t3\t-\t1\nrow\t1\t-\t4\t-\t1\nrow\t1\t-\t5\t-\t1\nrow\t1\t-\t6\t-\t6\nrow\t1\t-\t7\t-\t1\nrow\t1\t-\t8\t-\t2\nrow\t1\t-\t10\t-\t1\nrow\t1\t-\t11\t-\t1\nrow\t2\t-\t0\t-\t2\nrow\t2\t-\t1\t-\t2\nrow\t2\t-\t2\t-\t12\nrow\t2\t-\t3\t-\t2\nrow\t2\t-\t4\t-\t2\nrow\t2\t-\t5\t-\t2\nrow\t2\t-\t6\t-\t7\nrow\t2\t-\t7\t-\t2\nrow\t2\t-\t10\t-\t2\nrow\t2\t-\t11\t-\t2\nrow\t3\t-\t0\t-\t3\nrow\t3\t-\t1\t-\t3\nrow\t3\t-\t2\t-\t13\nrow\t3\t-\t3\t-\t3\nrow\t3\t-\t4\t-\t3\nrow\t3\t-\t5\t-\t3\nrow\t3\t-\t6\t-\t7\nrow\t3\t-\t7\t-\t3\nrow\t3\t-\t9\t-\t0\nrow\t3\t-\t10\t-\t3\nrow\t3\t-\t11\t-\t3\nrow\t4\t-\t0\t-\t4\nrow\t4\t-\t1\t-\t4\nrow\t4\t-\t2\t-\t14\nrow\t4\t-\t3\t-\t4\nrow\t4\t-\t4\t-\t4\nrow\t4\t-\t5\t-\t4\nrow\t4\t-\t6\t-\t9\nrow\t4\t-\t7\t-\t4\nrow\t4\t-\t10\t-\t4\nrow\t4\t-\t11\t-\t4\nrow\t5\t-\t0\t-\t9\nrow\t5\t-\t1\t-\t9\nrow\t5\t-\t2\t-\t16\nrow\t5\t-\t3\t-\t5\nrow\t5\t-\t4\t-\t9\nrow\t5\t-\t5\t-\t9\nrow\t5\t-\t6\t-\t5\nrow\t5\t-\t7\t-\t0\nrow\t5\t-\t10\t-\t9\nrow\t5\t-\t11\t-\t9\nrow\t6\t-\t0\t-\t6\nrow\t6\t-\t1\t-\t6\nrow\t6\t-\t2\t-\t16\nrow\t6\t-\t3\t-\t6\nrow\t6\t-\t4\t-\t6\nrow\t6\t-\t5\t-\t6\nrow\t6\t-\t6\t-\t6\nrow\t6\t-\t7\t-\t0\nrow\t6\t-\t8\t-\t7\nrow\t6\t-\t10\t-\t6\nrow\t6\t-\t11\t-\t6\nrow\t7\t-\t0\t-\t7\nrow\t7\t-\t1\t-\t7\nrow\t7\t-\t2\t-\t17\nrow\t7\t-\t3\t-\t7\nrow\t7\t-\t4\t-\t7\nrow\t7\t-\t5\t-\t7\nrow\t7\t-\t6\t-\t7\nrow\t7\t-\t7\t-\t3\nrow\t7\t-\t10\t-\t7\nrow\t7\t-\t11\t-\t7\nrow\t8\t-\t0\t-\t8\nrow\t8\t-\t1\t-\t8\nrow\t8\t-\t2\t-\t18\nrow\t8\t-\t3\t-\t8\nrow\t8\t-\t4\t-\t8\nrow\t8\t-\t5\t-\t8\nrow\t8\t-\t6\t-\t8\nrow\t8\t-\t7\t-\t3\nrow\t8\t-\t9\t-\t5\nrow\t8\t-\t10\t-\t8\nrow\t8\t-\t11\t-\t8\nrow\t9\t-\t0\t-\t9\nrow\t9\t-\t1\t-\t9\nrow\t9\t-\t2\t-\t19\nrow\t9\t-\t3\t-\t9\nrow\t9\t-\t4\t-\t9\nrow\t9\t-\t5\t-\t9\nrow\t9\t-\t6\t-\t9\nrow\t9\t-\t7\t-\t0\nrow\t9\t-\t10\t-\t9\nrow\t9\t-\t11\t-\t9\nrow\t10\t-\t0\t-\t10\nrow\t10\t-\t1\t-\t10\nrow\t10\t-\t2\t-\t10\nrow\t10\t-\t3\t-\t0\nrow\t10\t-\t4\t-\t10\nrow\t10\t-\t5\t-\t10\nrow\t10\t-\t6\t-\t16\nrow\t10\t-\t7\t-\t10\nrow\t10\t-\t10\t-\t10\nrow\t10\t-\t11\t-\t10\nrow\t11\t-\t0\t-\t11\nrow\t11\t-\t1\t-\t11\nrow\t11\t-\t2\t-\t11\nrow\t11\t-\t3\t-\t0\nrow\t11\t-\t4\t-\t11\nrow\t11\t-\t5\t-\t11\nrow\t11\t-\t6\t-\t16\nrow\t11\t-\t7\t-\t11\nrow\t11\t-\t8\t-\t12\nrow\t11\t-\t10\t-\t11\nrow\t11\t-\t11\t-\t11\nrow\t12\t-\t0\t-\t12\nrow\t12\t-\t1\t-\t12\nrow\t12\t-\t2\t-\t12\nrow\t12\t-\t3\t-\t2\nrow\t12\t-\t4\t-\t12\nrow\t12\t-\t5\t-\t12\nrow\t12\t-\t6\t-\t17\nrow\t12\t-\t7\t-\t12\nrow\t12\t-\t10\t-\t12\nrow\t12\t-\t11\t-\t12\nrow\t13\t-\t0\t-\t13\nrow\t13\t-\t1\t-\t13\nrow\t13\t-\t2\t-\t13\nrow\t13\t-\t3\t-\t3\nrow\t13\t-\t4\t-\t13\nrow\t13\t-\t5\t-\t13\nrow\t13\t-\t6\t-\t17\nrow\t13\t-\t7\t-\t13\nrow\t13\t-\t9\t-\t10\nrow\t13\t-\t10\t-\t13\nrow\t13\t-\t11\t-\t13\nrow\t14\t-\t0\t-\t14\nrow\t14\t-\t1\t-\t14\nrow\t14\t-\t2\t-\t14\nrow\t14\t-\t3\t-\t4\nrow\t14\t-\t4\t-\t14\nrow\t14\t-\t5\t-\t14\nrow\t14\t-\t6\t-\t19\nrow\t14\t-\t7\t-\t14\nrow\t14\t-\t10\t-\t14\nrow\t14\t-\t11\t-\t14\nrow\t15\t-\t0\t-\t15\nrow\t15\t-\t1\t-\t15\nrow\t15\t-\t2\t-\t15\nrow\t15\t-\t3\t-\t5\nrow\t15\t-\t4\t-\t15\nrow\t15\t-\t5\t-\t15\nrow\t15\t-\t6\t-\t15\nrow\t15\t-\t7\t-\t10\nrow\t15\t-\t10\t-\t15\nrow\t15\t-\t11\t-\t15\nrow\t16\t-\t0\t-\t16\nrow\t16\t-\t1\t-\t16\nrow\t16\t-\t2\t-\t16\nrow\t16\t-\t3\t-\t5\nrow\t16\t-\t4\t-\t16\nrow\t16\t-\t5\t-\t16\nrow\t16\t-\t6\t-\t16\nrow\t16\t-\t7\t-\t10\nrow\t16\t-\t8\t-\t17\nrow\t16\t-\t10\t-\t16\nrow\t16\t-\t11\t-\t16\nrow\t17\t-\t0\t-\t17\nrow\t17\t-\t1\t-\t17\nrow\t17\t-\t2\t-\t17\nrow\t17\t-\t3\t-\t7\nrow\t17\t-\t4\t-\t17\nrow\t17\t-\t5\t-\t17\nrow\t17\t-\t6\t-\t17\nrow\t17\t-\t7\t-\t13\nrow\t17\t-\t10\t-\t17\nrow\t17\t-\t11\t-\t17\nrow\t18\t-\t0\t-\t18\nrow\t18\t-\t1\t-\t18\nrow\t18\t-\t2\t-\t18\nrow\t18\t-\t3\t-\t8\nrow\t18\t-\t4\t-\t18\nrow\t18\t-\t5\t-\t18\nrow\t18\t-\t6\t-\t18\nrow\t18\t-\t7\t-\t13\nrow\t18\t-\t9\t-\t15\nrow\t18\t-\t10\t-\t18\nrow\t18\t-\t11\t-\t18\nrow\t19\t-\t0\t-\t19\nrow\t19\t-\t1\t-\t19\nrow\t19\t-\t2\t-\t19\nrow\t19\t-\t3\t-\t9\nrow\t19\t-\t4\t-\t19\nrow\t19\t-\t5\t-\t19\nrow\t19\t-\t6\t-\t19\nrow\t19\t-\t7\t-\t10\nrow\t19\t-\t10\t-\t19\nrow\t19\t-\t11\t-\t19\ncomp\t9\t0\nact\t10\tout\nact\t11\tout\nact\t12\tuout\nact\t13\tuout\nact\t14\tuin\nclk\t4\t1\nclk\t5\t0\nrow\t0\t4\t10\t-\t4\nrow\t0\t-\t14\t-\t0\nrow\t1\t-\t14\t5\t2\nrow\t2\t5\t11\t4\t6\nrow\t2\t-\t14\t-\t2\nrow\t3\t4\t10\t-\t4\nrow\t3\t-\t12\t-\t0\nrow\t3\t-\t14\t-\t3\nrow\t4\t-\t12\t-\t1\nrow\t4\t-\t14\t5\t5\nrow\t5\t5\t11\t4\t6\nrow\t5\t-\t12\t-\t2\nrow\t5\t-\t14\t-\t5\nrow\t6\t4\t10\t-\t4\nrow\t6\t-\t13\t-\t0\nrow\t6\t-\t14\t-\t6\nrow\t7\t-\t13\t-\t1\nrow\t7\t-\t14\t5\t8\nrow\t8\t5\t11\t4\t6\nrow\t8\t-\t13\t-\t2\nrow\t8\t-\t14\t-\t8\ncomp\t4\t0\nact\t10\tin\nact\t11\tin\nact\t14\tuout\nrow\t0\t-\t10\t-\t2\nrow\t0\t-\t11\t-\t0\nrow\t1\t-\t10\t-\t3\nrow\t1\t-\t11\t-\t0\nrow\t2\t-\t10\t-\t2\nrow\t2\t-\t11\t-\t0\nrow\t2\t-\t14\t-\t3\nrow\t3\t-\t10\t-\t3\nrow\t3\t-\t11\t-\t0\n" }
