-- What the lines of an explanation say is one line each, where the words are.
use Rattle.std.proofs.Common.{ℕ, Bool, true, false, cond, eqb, List, ◌++◌, length, refl}
use Rattle.std.specs.Prelude.{codes, decimal}
use Rattle.histar_level.specs.declared.level.Level.{Level}
use Rattle.histar_rawtext.specs.RawText.{level_text}
use Rattle.histar_explain.specs.declared.explanations.Act.{Act}
use Rattle.histar_explain.specs.declared.explanations.Act.TheVariants as acts
use Rattle.histar_explain.specs.declared.explanations.Obstacle.{Obstacle}
use Rattle.histar_explain.specs.declared.explanations.Obstacle.TheVariants as obstacles
use Rattle.histar_explain.specs.declared.reasons.Difference.{Difference}
use Rattle.histar_explain.specs.declared.reasons.Party.{Party}
use Rattle.histar_explain.specs.declared.reasons.Party.TheVariants.{AnyContainer, AnySegment, Object, Thread}
use Rattle.histar_raw_explain.specs.Texts.{Words, act_text, but_text, elsewhere_text, excess_text, has_text, object_text, obstacle_text}
use Rattle.histar_raw_explain.specs.Texts.{party_text, spared_text, test_text}
use Rattle.histar_report.proofs.OneLines.{IsOneLine, each_lined, joined, number_lined}
use Rattle.histar_report.proofs.RawTexts.{level_lined}

-- the wording of each thread, object and category is one line
pub record AreLinedWords (words : Words) : Type 0 where
  pub thread : (t : ℕ) → IsOneLine (words.thread t)
  pub object : (q : ℕ) → IsOneLine (words.object q)
  pub category : (c : ℕ) → IsOneLine (words.category c)
  pub listed : (c : ℕ) → IsOneLine (words.listed c)
  pub made : (kind : List ℕ) → IsOneLine kind → IsOneLine (words.made kind)

-- a party
party_lined : (party : Party) → IsOneLine (party_text party)
party_lined Thread = refl
party_lined _ = refl

-- a label has a level
has_lined : (party : Party) (l : Level) → IsOneLine (has_text party l)
has_lined party l =
    joined (party_text party ++ codes " has ") (level_text l) (joined (party_text party) (codes " has ") (party_lined party) refl)
    (level_lined l)

-- the levels of two labels
pub excess_lined : (lower upper : Party) (l m : Level) → IsOneLine (excess_text lower upper l m)
unfolding excess_text
excess_lined AnySegment upper l m =
    joined ((has_text upper m ++ codes ", which ") ++ codes "no segment") (codes " has")
    (joined (has_text upper m ++ codes ", which ") (codes "no segment")
    (joined (has_text upper m) (codes ", which ") (has_lined upper m) refl) refl) refl
excess_lined AnyContainer upper l m =
    joined ((has_text upper m ++ codes ", which ") ++ codes "no container") (codes " has")
    (joined (has_text upper m ++ codes ", which ") (codes "no container")
    (joined (has_text upper m) (codes ", which ") (has_lined upper m) refl) refl) refl
excess_lined lower upper l m =
    joined (((has_text lower l ++ codes ", ") ++ party_text upper) ++ codes " ") (level_text m)
    (joined ((has_text lower l ++ codes ", ") ++ party_text upper) (codes " ")
    (joined (has_text lower l ++ codes ", ") (party_text upper) (joined (has_text lower l) (codes ", ") (has_lined lower l) refl)
    (party_lined upper)) refl) (level_lined m)

-- which test a comparison is of
pub test_lined : (both : Bool) (lower upper : Party) → IsOneLine (test_text both lower upper)
test_lined true Thread Object = refl
test_lined true Object Thread = refl
test_lined _ _ _ = refl

-- an obstacle
pub obstacle_lined : (obstacle : Obstacle) → IsOneLine (obstacle_text obstacle)
obstacle_lined (obstacles.NotLinked d) = joined (decimal d) (codes " does not link it") (number_lined d) refl
obstacle_lined (obstacles.TooLong n) = joined (decimal n) (codes " bytes, more than 4096") (number_lined n) refl
obstacle_lined _ = refl

module _ (words : Words) (lined : AreLinedWords words) where
  -- an object
  named_lined : (verb : List ℕ) (q : ℕ) → IsOneLine verb → IsOneLine (object_text words verb q)
  named_lined verb q one = joined (verb ++ codes " ") (words.object q) (joined verb (codes " ") one refl) (lined.object q)

  -- the action that a denied call tried
  pub act_lined : (act : Act) → IsOneLine (act_text words act)
  act_lined acts.Call = refl
  act_lined (acts.Use q) = named_lined (codes "use") q refl
  act_lined (acts.Observe q) = named_lined (codes "observe") q refl
  act_lined (acts.Modify q) = named_lined (codes "modify") q refl
  act_lined (acts.Enter q) = named_lined (codes "enter") q refl
  act_lined (acts.EnterWith q) = joined (object_text words (codes "enter") q) (codes " with those labels") (named_lined (codes "enter") q refl) refl
  act_lined (acts.Write q) = named_lined (codes "write") q refl
  act_lined acts.TakeLabel = refl
  act_lined acts.TakeClearance = refl
  act_lined acts.MakeCategory = refl
  act_lined acts.MakeSegment = lined.made (codes "segment") refl
  act_lined acts.MakeContainer = lined.made (codes "container") refl
  act_lined acts.MakeThread = refl
  act_lined acts.MakeGate = refl

  -- the categories that are spared
  spared_lined : (d : Difference) → IsOneLine (spared_text words d)
  spared_lined d = lined.listed d.category

  -- the other categories
  pub others_lined : (spared : List Difference) → IsOneLine (elsewhere_text words spared)
  unfolding elsewhere_text
  others_lined spared = by (eqb (length spared) 0)
    where
      by : (t : Bool) → IsOneLine (let l : List ℕ = cond t (codes "that neither label names") (but_text words spared) in l)
      by true = refl
      by false = each_lined (spared_text words) spared_lined spared
