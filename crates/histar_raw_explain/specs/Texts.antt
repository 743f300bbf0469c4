-- The text of the explanation of a denied call.
use Rattle.std.specs.Prelude.{ℕ, ◌==◌, ◌&&◌, ◌||◌, not, Bool, true, false, List, [], ◌∷◌, ◌++◌, length}
use Rattle.std.specs.Prelude.{Option, None, Some, is_some, codes, decimal, if◌then◌else◌}
use Rattle.std.specs.List.{flat_map}
use Rattle.histar_level.specs.declared.level.Level.{Level}
use Rattle.histar_rawtext.specs.RawText.{level_text}
use Rattle.histar_explain.specs.declared.explanations.Act.{Act}
use Rattle.histar_explain.specs.declared.explanations.Act.TheVariants as acts
use Rattle.histar_explain.specs.declared.explanations.Obstacle.{Obstacle}
use Rattle.histar_explain.specs.declared.explanations.Obstacle.TheVariants as obstacles
use Rattle.histar_explain.specs.declared.explanations.Explanation.{Explanation}
use Rattle.histar_explain.specs.declared.reasons.Difference.{Difference}
use Rattle.histar_explain.specs.declared.reasons.Party.{Party}
use Rattle.histar_explain.specs.declared.reasons.Party.TheVariants.{Thread, Object, GateClearance, VerifyLabel, LabelAsked, ClearanceAsked}
use Rattle.histar_explain.specs.declared.reasons.Party.TheVariants.{ThreadClearance, ThreadClearanceAndLabel, Floor, Clearances}
use Rattle.histar_explain.specs.declared.reasons.Party.TheVariants.{AnySegment, AnyContainer}
use Rattle.histar_explain.specs.declared.reasons.Reason.{Reason}

-- the wording of threads, objects and categories, of categories in a list of several, and of an object of this kind that a call would make
pub record Words : Type 0 where
  pub thread : ℕ → List ℕ
  pub object : ℕ → List ℕ
  pub category : ℕ → List ℕ
  pub listed : ℕ → List ℕ
  pub made : List ℕ → List ℕ

-- the wording of each by its number
abbrev pub raw_words : Words
raw_words = record {
  thread = λ t. codes "thread " ++ decimal t;
  object = λ q. codes "object " ++ decimal q;
  category = λ c. codes "category " ++ decimal c;
  listed = decimal;
  made = λ kind. codes "that " ++ kind;
}

-- a verb and an object
abbrev pub object_text : Words → List ℕ → ℕ → List ℕ
object_text words verb q = verb ++ codes " " ++ words.object q

-- the action that a denied call tried
abbrev pub act_text : Words → Act → List ℕ
act_text words acts.Call = codes "call"
act_text words (acts.Use q) = object_text words (codes "use") q
act_text words (acts.Observe q) = object_text words (codes "observe") q
act_text words (acts.Modify q) = object_text words (codes "modify") q
act_text words (acts.Enter q) = object_text words (codes "enter") q
act_text words (acts.EnterWith q) = object_text words (codes "enter") q ++ codes " with those labels"
act_text words (acts.Write q) = object_text words (codes "write") q
act_text words acts.TakeLabel = codes "take that label"
act_text words acts.TakeClearance = codes "take that clearance"
act_text words acts.MakeCategory = codes "make that category"
act_text words acts.MakeSegment = codes "make " ++ words.made (codes "segment")
act_text words acts.MakeContainer = codes "make " ++ words.made (codes "container")
act_text words acts.MakeThread = codes "make that thread"
act_text words acts.MakeGate = codes "make that gate"

-- an obstacle that has no number
abbrev pub plain_text : Obstacle → List ℕ
plain_text obstacles.NoThread = codes "it is no thread"
plain_text obstacles.NoObject = codes "there is no such object"
plain_text obstacles.NoContainer = codes "it is no container"
plain_text obstacles.NoSegment = codes "it is no segment"
plain_text obstacles.NoGate = codes "it is no gate"
plain_text obstacles.IsThread = codes "it is a thread"
plain_text obstacles.NoNumber = codes "no number is left"
plain_text (obstacles.NotLinked d) = []
plain_text (obstacles.TooLong n) = []

-- a container that doesn't link an object
abbrev pub not_linked_text : ℕ → List ℕ
not_linked_text d = codes "container " ++ decimal d ++ codes " does not link it"

-- this many bytes, which no segment holds
abbrev pub too_long_text : ℕ → List ℕ
too_long_text n = codes "it would have " ++ decimal n ++ codes " bytes, more than 4096"

-- the obstacle of a call
abbrev pub obstacle_text : Obstacle → List ℕ
obstacle_text (obstacles.NotLinked d) = not_linked_text d
obstacle_text (obstacles.TooLong n) = too_long_text n
obstacle_text obstacle = plain_text obstacle

-- the party whose label is on a side of a comparison
abbrev pub party_text : Party → List ℕ
party_text Thread = codes "the thread"
party_text Object = codes "the object"
party_text GateClearance = codes "the gate's clearance"
party_text VerifyLabel = codes "the verify label"
party_text LabelAsked = codes "the label asked for"
party_text ClearanceAsked = codes "the clearance asked for"
party_text ThreadClearance = codes "the thread's clearance"
party_text ThreadClearanceAndLabel = codes "the thread's clearance and label"
party_text Floor = codes "the floor of thread and gate"
party_text Clearances = codes "the clearances of thread and gate"
party_text AnySegment = codes "no segment"
party_text AnyContainer = codes "no container"

-- a label has a level
abbrev pub has_text : Party → Level → List ℕ
has_text party l = party_text party ++ codes " has " ++ level_text l

-- the levels of two labels where the lower one is above the other, or that a label has star where no segment or no container may
unfoldable pub excess_text : Party → Party → Level → Level → List ℕ
excess_text AnySegment upper l m = has_text upper m ++ codes ", which " ++ party_text AnySegment ++ codes " has"
excess_text AnyContainer upper l m = has_text upper m ++ codes ", which " ++ party_text AnyContainer ++ codes " has"
excess_text lower upper l m = has_text lower l ++ codes ", " ++ party_text upper ++ codes " " ++ level_text m

-- the beginning of each line: the number of the call's line, the thread, and what it may not do
abbrev pub opening_text : Words → ℕ → ℕ → Act → List ℕ
opening_text words line thread act = codes "?" ++ decimal line ++ codes " " ++ words.thread thread ++ codes " may not " ++ act_text words act ++ codes ": "

-- the line of a category that was never made
abbrev pub unmade_line : Words → List ℕ → ℕ → List ℕ
unmade_line words opening c = opening ++ words.category c ++ codes " was never made\n"

-- the beginning of the line of a category
abbrev pub place_text : Words → List ℕ → ℕ → List ℕ
place_text words opening c = opening ++ codes "at " ++ words.category c ++ codes " "

-- the comparison of a reason fails at some category
abbrev pub fails : Reason → Bool
fails r = not (length r.named.items == 0) || is_some r.elsewhere

-- both tests of a denial to modify fail: to write the object, and to read it, which writing needs
abbrev pub both_fail : List Reason → Bool
both_fail (a ∷ b ∷ []) = fails a && fails b
both_fail reasons = false

-- the end of each line of a reason: which test it is of, if both tests of a denial to modify fail
abbrev pub test_text : Bool → Party → Party → List ℕ
test_text true Thread Object = codes " (to write it)"
test_text true Object Thread = codes " (to read it, which writing needs)"
test_text both lower upper = []

-- the end of a line of a reason: the two levels, which test they are of, and a line end
abbrev pub levels_line : Bool → Party → Party → Level → Level → List ℕ
levels_line both lower upper l m = excess_text lower upper l m ++ test_text both lower upper ++ codes "\n"

-- the line of a listed category at which a comparison fails
abbrev pub difference_line : Words → List ℕ → Bool → Party → Party → Difference → List ℕ
difference_line words opening both lower upper d = place_text words opening d.category ++ levels_line both lower upper d.lower d.upper

-- a category that is spared, with a space before it
abbrev pub spared_text : Words → Difference → List ℕ
spared_text words d = codes " " ++ words.listed d.category

-- all categories except the spared ones
abbrev pub but_text : Words → List Difference → List ℕ
but_text words spared = codes "but" ++ flat_map (spared_text words) spared

-- all categories that no label names, or all except the spared ones
unfoldable pub elsewhere_text : Words → List Difference → List ℕ
elsewhere_text words spared = if length spared == 0 then codes "that neither label names" else but_text words spared

-- the beginning of the line of all other categories
abbrev pub every_text : Words → List ℕ → List Difference → List ℕ
every_text words opening spared = opening ++ codes "at all categories " ++ elsewhere_text words spared ++ codes ": "

-- the line of all other categories, where the comparison fails for the defaults
abbrev pub elsewhere_line : Words → List ℕ → Bool → Reason → Option (Level × Level) → List ℕ
elsewhere_line words opening both r None = []
elsewhere_line words opening both r (Some levels) =
    every_text words opening r.spared.items ++ levels_line both r.lower r.upper levels.0 levels.1

-- the lines of a reason: its listed categories by rising number, and then all others
abbrev pub reason_lines : Words → List ℕ → Bool → Reason → List ℕ
reason_lines words opening both r =
    flat_map (difference_line words opening both r.lower r.upper) r.named.items ++ elsewhere_line words opening both r r.elsewhere

-- the lines of reasons
abbrev pub all_reason_lines : Words → List ℕ → List Reason → List ℕ
all_reason_lines words opening reasons = flat_map (reason_lines words opening (both_fail reasons)) reasons

-- the line of the obstacle, if there is one
abbrev pub obstacle_lines : List ℕ → Option Obstacle → List ℕ
obstacle_lines opening None = []
obstacle_lines opening (Some obstacle) = opening ++ obstacle_text obstacle ++ codes "\n"

-- the lines of an explanation, each with the same beginning
abbrev pub explanation_lines : Words → List ℕ → Explanation → List ℕ
explanation_lines words opening e =
    flat_map (unmade_line words opening) e.unmade.items ++ all_reason_lines words opening e.reasons.items ++ obstacle_lines opening e.obstacle

-- the lines that explain why the call of a thread on a line was denied
abbrev pub explanation_text : Words → ℕ → ℕ → Explanation → List ℕ
explanation_text words line thread e = explanation_lines words (opening_text words line thread e.act) e
