-- The laws of outputs and of pages: what is under which call.
use Rattle.std.specs.Prelude.{◌≡◌, ℕ, List, [], ◌∷◌, codes, Option}
use Rattle.std.specs.Io.KnownBytes.{Appends}
use Rattle.histar_io.specs.Writing.{AppendsFront}
use Rattle.histar_script.specs.Lines.{lines_of}
use Rattle.histar_run_explain.specs.Output.{IsExplainedOutput}
use Rattle.histar_page.specs.Laws.{is_other_kind, of_kinds, other_item}
use Rattle.histar_page.specs.Order.{FollowsReplies}
use Rattle.histar_page.specs.Session.{session_items}
use Rattle.histar_report.specs.Session.{WritesPageAs, with_trace}

-- Whatever a run of the script in a text writes, with its trace and its explanations: its raw calls are those of boot and then those of one
-- reply after another, and so are its explanations.
abbrev pub OutputsFollowReplies : Type 0
OutputsFollowReplies = (text output : List ℕ) → IsExplainedOutput with_trace text output → FollowsReplies (lines_of output)

-- in the session of a page that was written as far as `Writes` says, no number but boot's is shown without its call
abbrev pub ShowsEachUnderItsCall : (List ℕ → Type 0) → Type 0
ShowsEachUnderItsCall Writes =
    (name version text : List ℕ) (written : WritesPageAs Writes name version text)
    → of_kinds is_other_kind (session_items (lines_of text) (lines_of written.output) (lines_of written.reasons)) ≡ other_item (codes "0") ∷ []

-- So it is on each page that was written whole, or that a failed write broke off: each raw call and each explanation is under the call that it
-- belongs to.
abbrev pub CallsHaveTheirOwn : Type 0
CallsHaveTheirOwn = (old new : Option (List ℕ)) → ShowsEachUnderItsCall (Appends old new) × ShowsEachUnderItsCall (AppendsFront old new)
