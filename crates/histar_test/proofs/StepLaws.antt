-- The calls and the expectations of a test are those of its lines.
use Rattle.std.proofs.Common.{◌≡◌, ℕ, ◌+◌, Bool, true, false, List, [], ◌∷◌, ◌++◌, take, drop, length, Option, Some, None, Result, Ok, Err}
use Rattle.std.proofs.Common.{◌&&◌, ◌||◌, refl, sym, ap, ◌∙◌, append-nil, append_assoc, arith, length-append}
use Rattle.std.specs.Prelude.{codes, is_some, option_to_list, if◌then◌else◌, ◌==◌}
use Rattle.std.specs.Option.{option_and_then}
use Rattle.std.specs.Str.{bytes_eq}
use Rattle.std.proofs.lemmas.List.{length-map}
use Rattle.std.proofs.lemmas.List.Elements.{filter_map-append}
use Rattle.std.proofs.lemmas.List.Sums.{sum_by-append}
use Rattle.histar_flat.specs.declared.calls.CallLine.{CallLine}
use Rattle.histar_flat.specs.declared.calls.UnixCall.{UnixCall}
use Rattle.histar_flat.specs.FlatCalls.{flat_after}
use Rattle.histar_flat.specs.FlatState.{Flat}
use Rattle.histar_flat.specs.Accounts.{Accounts}
use Rattle.histar_flat.specs.Words.{ProcName}
use Rattle.histar_flat.specs.Meaning.{boot}
use Rattle.histar_script.specs.declared.fault.Fault.{Fault}
use Rattle.histar_script.specs.declared.fault.Fault.TheVariants.{BadScript, TooLong}
use Rattle.histar_script.specs.declared.items.Item.{Item}
use Rattle.histar_script.specs.declared.items.Item.TheVariants as items
use Rattle.histar_script.specs.Lines.{is_plain, is_too_long, lines_of}
use Rattle.histar_script.specs.Reading.{is_empty, item_of, reading, script_of, takes_call, takes_group, takes_user}
use Rattle.histar_script.specs.Reading.{with_item, with_line, with_lines, words_item}
use Rattle.histar_script.specs.Script.{ScriptModel, nothing_read}
use Rattle.histar_never.specs.declared.claims.Never.{Never}
use Rattle.histar_never.specs.Claims.{never_of}
use Rattle.histar_test.specs.declared.checks.Made.{Made}
use Rattle.histar_test.specs.declared.asking.Asking.{Asking}
use Rattle.histar_test.specs.declared.steps.Step.{Step}
use Rattle.histar_test.specs.declared.steps.Step.TheVariants.{Makes, Expects, Asks, Forbids}
use Rattle.histar_test.specs.Checks.{checks_from, checks_of, made_of, never_check, never_checks}
use Rattle.histar_test.specs.Laws.{TestsMakeTheCalls}
use Rattle.histar_test.specs.Steps.{Test, asked_of, asking_of, asking_step, call_in, call_of_step, calls_in, expectation_count, expectation_of}
use Rattle.histar_test.specs.Steps.{forbidden_of, never_of_step, never_step, nevers_in, open_after, step_by, step_of, step_or, step_then}
use Rattle.histar_test.specs.Steps.{steps_before, steps_by, steps_from, test_by, test_of, test_with}
use Rattle.histar_test.proofs.StepLemmas.{Read, by_step}

-- ---- the step of a line, and the line

-- the step of a line with a question or a claim is that one
asks_alone : (n : ℕ) (o : Option Asking) (step : Option Step) → asking_step n o ≡ Ok step → (q : Asking) × (step ≡ Some (Asks q)) × (o ≡ Some q)
asks_alone n (Some q) step e = (q, cc, refl)
asks_alone n None step e = absurd cc

-- a line without a step has no question and no expectation
pub none_wanted : (n : ℕ) (line : List ℕ) (asked text : Option (List ℕ)) (call : Option CallLine) → step_by n line asked text call ≡ Ok None
    → (asked ≡ None) × (text ≡ None)
none_wanted n line (Some a) text call e = let alone = asks_alone n (asking_of n a) None e in absurd cc
none_wanted n line None (Some text) call e = absurd cc
none_wanted n line None None call e = (refl, refl)

-- a line with a call has no question and no expectation
pub call_wanted : (n : ℕ) (line : List ℕ) (asked text : Option (List ℕ)) (call : Option CallLine) (c : CallLine) (said : List ℕ)
    → step_by n line asked text call ≡ Ok (Some (Makes c said)) → (asked ≡ None) × (text ≡ None) × (call ≡ Some c)
call_wanted n line (Some a) text call c said e = let alone = asks_alone n (asking_of n a) (Some (Makes c said)) e in absurd cc
call_wanted n line None (Some text) call c said e = absurd cc
call_wanted n line None None (Some d) c said e = (refl, refl, cc)
call_wanted n line None None None c said e = absurd cc

-- the text of an expectation is on its line
pub text_wanted : (n : ℕ) (line : List ℕ) (asked text : Option (List ℕ)) (call : Option CallLine) (wanted : List ℕ)
    → step_by n line asked text call ≡ Ok (Some (Expects wanted)) → (asked ≡ None) × (text ≡ Some wanted)
text_wanted n line (Some a) text call wanted e = let alone = asks_alone n (asking_of n a) (Some (Expects wanted)) e in absurd cc
text_wanted n line None (Some text) call wanted e = (refl, cc)
text_wanted n line None None (Some d) wanted e = absurd cc
text_wanted n line None None None wanted e = absurd cc

-- the question is on its line
pub rights_wanted : (n : ℕ) (line : List ℕ) (asked text : Option (List ℕ)) (call : Option CallLine) (q : Asking)
    → step_by n line asked text call ≡ Ok (Some (Asks q)) → (a : List ℕ) × (asked ≡ Some a) × (asking_of n a ≡ Some q)
rights_wanted n line (Some a) text call q e =
    let alone = asks_alone n (asking_of n a) (Some (Asks q)) e in
    let same : alone.0 ≡ q = cc in
    (a, refl, alone.2 ∙ ap (λ (x : Asking). Some x) same)
rights_wanted n line None (Some text) call q e = absurd cc
rights_wanted n line None None (Some d) q e = absurd cc
rights_wanted n line None None None q e = absurd cc

-- ---- claims `#never`

-- the claim `#never` of a step, if it is one
abbrev pub nevers_by : Option Step → List Never
nevers_by step = nevers_in (option_to_list step)

-- the claims of a step and of those after it
pub nevers_on : (step : Option Step) (rest : List Step) → nevers_in (option_to_list step ++ rest) ≡ nevers_by step ++ nevers_in rest
nevers_on step rest = filter_map-append never_of_step (option_to_list step) rest

-- the step of a line with a claim is that one
claims_alone : (n : ℕ) (o : Option Never) (step : Option Step) → never_step n o ≡ Ok step → (q : Never) × (step ≡ Some (Forbids q)) × (o ≡ Some q)
claims_alone n (Some q) step e = (q, cc, refl)
claims_alone n None step e = absurd cc

-- a line whose step is no claim has none
pub no_claim : (accounts : Accounts) (n : ℕ) (claim : Option (List ℕ)) (other : Result (Option Step) ℕ) (step : Option Step)
    → step_or accounts n claim other ≡ Ok step → nevers_by step ≡ [] → (claim ≡ None) × (other ≡ Ok step)
no_claim accounts n (Some text) other step e none =
    let alone = claims_alone n (never_of accounts n text) step e in
    let same : alone.0 ∷ [] ≡ [] = sym (ap nevers_by alone.1) ∙ none in
    absurd cc
no_claim accounts n None other step e none = (refl, e)

-- a line without a claim has no claim as its step
none_forbidden : (n : ℕ) (line : List ℕ) (asked text : Option (List ℕ)) (call : Option CallLine) (step : Option Step)
    → step_by n line asked text call ≡ Ok step → nevers_by step ≡ []
none_forbidden n line (Some a) text call step e = let alone = asks_alone n (asking_of n a) step e in ap nevers_by alone.1
none_forbidden n line None (Some text) call step e = let same : step ≡ Some (Expects text) = cc in ap nevers_by same
none_forbidden n line None None (Some c) step e = let same : step ≡ Some (Makes c line) = cc in ap nevers_by same
none_forbidden n line None None None step e = let same : step ≡ None = cc in ap nevers_by same

-- the claim of a step is on its line
pub claim_wanted : (accounts : Accounts) (n : ℕ) (line : List ℕ) (claim asked text : Option (List ℕ)) (call : Option CallLine) (q : Never)
    → step_or accounts n claim (step_by n line asked text call) ≡ Ok (Some (Forbids q))
    → (c : List ℕ) × (claim ≡ Some c) × (never_of accounts n c ≡ Some q)
claim_wanted accounts n line (Some c) asked text call q e =
    let alone = claims_alone n (never_of accounts n c) (Some (Forbids q)) e in
    let same : alone.0 ≡ q = cc in
    (c, refl, alone.2 ∙ ap (λ (x : Never). Some x) same)
claim_wanted accounts n line None asked text call q e =
    let none : q ∷ [] ≡ [] = none_forbidden n line asked text call (Some (Forbids q)) e in
    absurd cc

-- ---- the steps of lines, one line after another

-- a step that may be there, and the steps of the lines after it
read_on : (step : Step) (later : Read) (steps : List Step) → steps_before (step ∷ []) later ≡ Ok steps
    → (rest : List Step) × (later ≡ Ok rest) × (steps ≡ step ∷ rest)
read_on step (Ok rest) steps e = (rest, refl, cc)
read_on step (Err m) steps e = absurd cc

-- the call is open after a line, by its step
abbrev pub OpensTo : Bool → Option Step → Bool → Type 0
OpensTo is_open None opened = opened ≡ is_open
OpensTo is_open (Some step) opened = open_after is_open step ≡ Some opened

-- The steps of lines are the step of the first, if it is one, and then those of the others.
pub record IsOn (accounts : Accounts) (n : ℕ) (is_open : Bool) (line : List ℕ) (lines : List (List ℕ)) (steps : List Step) : Type 0 where
  pub step : Option Step
  pub is_step : step_of accounts n line ≡ Ok step
  pub opened : Bool
  pub opens : OpensTo is_open step opened
  pub rest : List Step
  pub is_rest : steps_from accounts (n + 1) opened lines ≡ Ok rest
  pub parts : steps ≡ option_to_list step ++ rest

module _ (accounts : Accounts) (n : ℕ) (is_open : Bool) (line : List ℕ) (lines : List (List ℕ)) (steps : List Step) where
  -- the case that the first line has this step
  on_step : (step : Step) → step_of accounts n line ≡ Ok (Some step) → (o : Option Bool) → open_after is_open step ≡ o
      → step_then n step o (λ opened. steps_from accounts (n + 1) opened lines) ≡ Ok steps → IsOn accounts n is_open line lines steps
  on_step step is None opens read = absurd cc
  on_step step is (Some opened) opens read =
      let on = read_on step (steps_from accounts (n + 1) opened lines) steps read in
      record { step = Some step; is_step = is; opened = opened; opens = opens; rest = on.0; is_rest = on.1; parts = on.2 }

  -- the case of any step of the first line, or none
  by_read : (step : Result (Option Step) ℕ) → step_of accounts n line ≡ step
      → steps_by n is_open step (λ opened. steps_from accounts (n + 1) opened lines) ≡ Ok steps → IsOn accounts n is_open line lines steps
  by_read (Err m) is read = absurd cc
  by_read (Ok None) is read = record { step = None; is_step = is; opened = is_open; opens = refl; rest = steps; is_rest = read; parts = refl }
  by_read (Ok (Some step)) is read = on_step step is (open_after is_open step) refl read

  -- the steps of lines have this form
  pub on_line : steps_from accounts n is_open (line ∷ lines) ≡ Ok steps → IsOn accounts n is_open line lines steps
  on_line read =
      by_read (step_of accounts n line) refl (sym (by_step accounts n is_open line lines (step_of accounts n line) refl) ∙ read)

-- ---- how many checks there are

-- each expectation among the steps has a call before it, given whether one is open before them
abbrev pub is_in_order : Bool → List Step → Bool
is_in_order is_open [] = true
is_in_order is_open (step ∷ steps) = elim (open_after is_open step) [ None ↦ false | Some opened ↦ is_in_order opened steps ]

-- the number of expectations of a step and of those after it
counted_on : (step : Step) (rest : List Step) → expectation_count (step ∷ rest) ≡ expectation_count (step ∷ []) + expectation_count rest
counted_on step rest = sum_by-append _ (step ∷ []) rest

-- steps in their order have a check for each expectation, but for the claims `#never`
pub steps_counted : (accounts : Accounts) (f : Flat) (last : Option Made) (steps : List Step) → is_in_order (is_some last) steps ≡ true
    → length (checks_from false accounts f last steps) + length (nevers_in steps) ≡ expectation_count steps
steps_counted accounts f last [] ordered = refl
steps_counted accounts f last (Makes c said ∷ steps) ordered =
    let on = steps_counted accounts (flat_after accounts f c.process c.call) (Some (made_of accounts f c said)) steps ordered in
    let one : expectation_count (Makes c said ∷ steps) ≡ expectation_count steps = counted_on (Makes c said) steps ∙ omega arith in
    on ∙ sym one
steps_counted accounts f None (Expects text ∷ steps) ordered = absurd cc
steps_counted accounts f (Some made) (Expects text ∷ steps) ordered =
    let on = steps_counted accounts f None steps ordered in
    let one : expectation_count (Expects text ∷ steps) ≡ 1 + expectation_count steps = counted_on (Expects text) steps ∙ omega arith in
    omega (arith, on, one)
steps_counted accounts f last (Asks q ∷ steps) ordered =
    let on = steps_counted accounts f last steps ordered in
    let one : expectation_count (Asks q ∷ steps) ≡ 1 + expectation_count steps = counted_on (Asks q) steps ∙ omega arith in
    omega (arith, on, one)
steps_counted accounts f last (Forbids q ∷ steps) ordered =
    let on = steps_counted accounts f last steps ordered in
    let one : expectation_count (Forbids q ∷ steps) ≡ 1 + expectation_count steps = counted_on (Forbids q) steps ∙ omega arith in
    omega (arith, on, one)

-- a step that opens or closes the call, and steps in their order after it
ordered_on : (is_open opened : Bool) (step : Option Step) (rest : List Step) → OpensTo is_open step opened → is_in_order opened rest ≡ true
    → is_in_order is_open (option_to_list step ++ rest) ≡ true
ordered_on is_open opened None rest opens ordered = ap (λ (b : Bool). is_in_order b rest) (sym opens) ∙ ordered
ordered_on is_open opened (Some step) rest opens ordered =
    ap (λ (o : Option Bool). elim o [ None ↦ false | Some b ↦ is_in_order b rest ]) opens ∙ ordered

-- the steps of lines are in their order
in_order : (accounts : Accounts) (n : ℕ) (is_open : Bool) (lines : List (List ℕ)) (steps : List Step) → steps_from accounts n is_open lines ≡ Ok steps
    → is_in_order is_open steps ≡ true
unfolding steps_from
in_order accounts n is_open [] steps read = let none : steps ≡ [] = cc in ap (is_in_order is_open) none
in_order accounts n is_open (line ∷ lines) steps read =
    let on = on_line accounts n is_open line lines steps read in
    ap (is_in_order is_open) on.parts
    ∙ ordered_on is_open on.opened on.step on.rest on.opens (in_order accounts (n + 1) on.opened lines on.rest on.is_rest)

-- ---- the calls

-- the call of a step, if there is one
abbrev pub calls_by : Option Step → List CallLine
calls_by step = calls_in (option_to_list step)

-- the calls of a step and of those after it
pub calls_on : (step : Option Step) (rest : List Step) → calls_in (option_to_list step ++ rest) ≡ calls_by step ++ calls_in rest
calls_on step rest = filter_map-append call_of_step (option_to_list step) rest

-- the line begins with `#`
abbrev is_comment : List ℕ → Bool
is_comment [] = false
is_comment (b ∷ bs) = b == 35

-- a line that is a comment makes no call
pub call_says : (line : List ℕ) (p : ProcName) (c : UnixCall) → item_of line ≡ Some (items.Call p c) → is_comment line ≡ false
unfolding item_of
call_says [] p c is = refl
call_says (b ∷ bs) p c is = by (b == 35) (is_plain (b ∷ bs)) is
  where
    by : (hash plain : Bool)
        → (if plain then (if hash then Some items.Comment else words_item (b ∷ bs)) else None) ≡ Some (items.Call p c)
        → hash ≡ false
    by true true i = absurd cc
    by true false i = absurd cc
    by false plain i = refl

-- a line that is no comment has no claim
pub no_claim_there : (line : List ℕ) → is_comment line ≡ false → forbidden_of line ≡ None
no_claim_there [] is = refl
no_claim_there (b ∷ bs) is =
    ap (λ (hash : Bool).
    if (hash && bytes_eq (take 6 bs) (codes "never ")) || (hash && bytes_eq bs (codes "never")) then Some bs else None) is

-- a line that is no comment has no question and no expectation
pub no_comment : (line : List ℕ) → is_comment line ≡ false → (asked_of line ≡ None) × (expectation_of line ≡ None)
no_comment [] is = (refl, refl)
no_comment (b ∷ bs) is = (
  ap (λ (hash : Bool).
      if (hash && bytes_eq (take 2 bs) (codes "! ")) || ((hash && bytes_eq (take 8 bs) (codes "trusted ")) || (hash && bytes_eq bs (codes "trusted")))
      then Some bs else None) is,
  ap (λ (hash : Bool). if hash && bytes_eq (take 2 bs) (codes "= ") then Some (drop 2 bs) else None) is,
)

-- a line with a question or an expectation makes no call
no_call : (n : ℕ) (line : List ℕ) (asked text : Option (List ℕ)) (step : Option Step) → step_by n line asked text None ≡ Ok step → calls_by step ≡ []
no_call n line (Some a) text step e = let alone = asks_alone n (asking_of n a) step e in ap calls_by alone.1
no_call n line None (Some text) step e = let same : step ≡ Some (Expects text) = cc in ap calls_by same
no_call n line None None step e = let same : step ≡ None = cc in ap calls_by same

-- the call of a line without a question and an expectation
own_call : (n : ℕ) (line : List ℕ) (asked text : Option (List ℕ)) (c : CallLine) (step : Option Step) → asked ≡ None → text ≡ None
    → step_by n line asked text (Some c) ≡ Ok step → calls_by step ≡ c ∷ []
own_call n line (Some a) text c step none nothing e = absurd cc
own_call n line None (Some text) c step none nothing e = absurd cc
own_call n line None None c step none nothing e = let same : step ≡ Some (Makes c line) = cc in ap calls_by same

-- the script, if it may be read
abbrev read_if : Bool → ScriptModel → Option ScriptModel
read_if b t = if b then Some t else None

-- a script that is read is this one
is_read : (b : Bool) (t u : ScriptModel) → read_if b t ≡ Some u → u ≡ t
is_read true t u e = cc
is_read false t u e = absurd cc

-- a line that makes no call leaves the calls as they were
same_left : (s t : ScriptModel) (calls : List CallLine) → t.calls ≡ s.calls → calls ≡ [] → t.calls ≡ s.calls ++ calls
same_left s t calls same none = same ∙ sym (append-nil s.calls) ∙ ap (λ (cs : List CallLine). s.calls ++ cs) (sym none)

-- a line with a claim makes no call
no_call_claimed : (n : ℕ) (o : Option Never) (step : Option Step) → never_step n o ≡ Ok step → calls_by step ≡ []
no_call_claimed n o step e = let alone = claims_alone n o step e in ap calls_by alone.1

-- a line with a claim, a question or an expectation makes no call
no_call_there : (accounts : Accounts) (n : ℕ) (line : List ℕ) (claim asked text : Option (List ℕ)) (step : Option Step)
    → step_or accounts n claim (step_by n line asked text None) ≡ Ok step → calls_by step ≡ []
no_call_there accounts n line (Some c) asked text step e = no_call_claimed n (never_of accounts n c) step e
no_call_there accounts n line None asked text step e = no_call n line asked text step e

-- the call of a line without a claim
call_there : (accounts : Accounts) (n : ℕ) (claim : Option (List ℕ)) (other : Result (Option Step) ℕ) (step : Option Step) → claim ≡ None
    → step_or accounts n claim other ≡ Ok step → other ≡ Ok step
call_there accounts n (Some c) other step none e = absurd cc
call_there accounts n None other step none e = e

module _ (accounts : Accounts) (s t : ScriptModel) (n : ℕ) (line : List ℕ) where
  -- the step of the line, by its item
  abbrev HasStep : Option Item → Option Step → Type 0
  HasStep item step =
      step_or accounts n (forbidden_of line) (step_by n line (asked_of line) (expectation_of line) (call_in n item)) ≡ Ok step

  -- the calls after a line that says an item
  calls_at_item : (item : Item) (step : Option Step) → item_of line ≡ Some item → with_item s n item ≡ Some t → HasStep (Some item) step
      → t.calls ≡ s.calls ++ calls_by step
  unfolding with_item
  calls_at_item items.Comment step says reads is =
      let same : t ≡ s = cc in
      same_left s t (calls_by step) (ap (λ (r : ScriptModel). r.calls) same)
      (no_call_there accounts n line (forbidden_of line) (asked_of line) (expectation_of line) step is)
  calls_at_item (items.User u) step says reads is =
      same_left s t (calls_by step) (ap (λ (r : ScriptModel). r.calls) (is_read (takes_user s u) _ t reads))
      (no_call_there accounts n line (forbidden_of line) (asked_of line) (expectation_of line) step is)
  calls_at_item (items.Group g) step says reads is =
      same_left s t (calls_by step) (ap (λ (r : ScriptModel). r.calls) (is_read (takes_group s g) _ t reads))
      (no_call_there accounts n line (forbidden_of line) (asked_of line) (expectation_of line) step is)
  calls_at_item (items.Call p c) step says reads is =
      let same = is_read (takes_call s c) _ t reads in
      let plain = no_comment line (call_says line p c says) in
      let call : CallLine = record { line = n; process = p; call = c } in
      let other = call_there accounts n (forbidden_of line) _ step (no_claim_there line (call_says line p c says)) is in
      ap (λ (r : ScriptModel). r.calls) same
      ∙ ap (λ (cs : List CallLine). s.calls ++ cs) (sym (own_call n line (asked_of line) (expectation_of line) call step plain.0 plain.1 other))

  -- the calls after a line
  calls_at : (item : Option Item) (step : Option Step) → item_of line ≡ item
      → option_and_then (λ i. with_item s n i) item ≡ Some t → step_of accounts n line ≡ Ok step → t.calls ≡ s.calls ++ calls_by step
  calls_at None step says reads is = absurd cc
  calls_at (Some item) step says reads is =
      calls_at_item item step says reads
      (sym (ap (λ (i : Option Item).
      step_or accounts n (forbidden_of line) (step_by n line (asked_of line) (expectation_of line) (call_in n i))) says) ∙ is)

-- the script after the first line is read on to the whole one
read_lines : (s : ScriptModel) (n : ℕ) (lines : List (List ℕ)) (line : Option ScriptModel) (script : ScriptModel)
    → ◌≡◌ {A = Result ScriptModel Fault} (elim line [ None ↦ Err (BadScript (n + 1)) | Some t ↦ with_lines t (n + 1) lines ]) (Ok script)
    → (t : ScriptModel) × (line ≡ Some t) × (with_lines t (n + 1) lines ≡ Ok script)
read_lines s n lines None script e = absurd cc
read_lines s n lines (Some t) script e = (t, refl, e)

-- the calls of lines are those of their steps
pub same_calls : (accounts : Accounts) (s script : ScriptModel) (n : ℕ) (is_open : Bool) (lines : List (List ℕ)) (steps : List Step)
    → with_lines s n lines ≡ Ok script → steps_from accounts (n + 1) is_open lines ≡ Ok steps → script.calls ≡ s.calls ++ calls_in steps
unfolding with_lines steps_from with_line
same_calls accounts s script n is_open [] steps reads read =
    let none : steps ≡ [] = cc in
    ap (λ (r : ScriptModel). r.calls) (by (is_empty s.accounts.users) reads) ∙ sym (append-nil s.calls)
    ∙ ap (λ (all : List Step). s.calls ++ calls_in all) (sym none)
  where
    by : (b : Bool) → (if b then Err (BadScript (n + 1)) else Ok s) ≡ Ok script → script ≡ s
    by true e = absurd cc
    by false e = cc
same_calls accounts s script n is_open (line ∷ lines) steps reads read =
    let one = read_lines s n lines (with_line s (n + 1) line) script reads in
    let on = on_line accounts (n + 1) is_open line lines steps read in
    let later = same_calls accounts one.0 script (n + 1) on.opened lines on.rest one.2 on.is_rest in
    let own = ap calls_in on.parts ∙ calls_on on.step on.rest in
    later
    ∙ ap (λ (cs : List CallLine). cs ++ calls_in on.rest) (calls_at accounts s one.0 (n + 1) line (item_of line) on.step refl one.1 on.is_step)
    ∙ append_assoc s.calls (calls_by on.step) (calls_in on.rest) ∙ ap (λ (cs : List CallLine). s.calls ++ cs) (sym own)

-- ---- whole texts

-- The text is a script with these steps, and the test has them and the accounts.
pub record IsReadAs (text : List ℕ) (test : Test) : Type 0 where
  pub script : ScriptModel
  pub is_script : script_of text ≡ Ok script
  pub are_steps : steps_from test.accounts 1 false (lines_of text) ≡ Ok test.steps
  pub accounts : test.accounts ≡ script.accounts

-- a test with these accounts has the steps that were read
with_steps : (accounts : Accounts) (test : Test) (steps : Read) → test_with accounts steps ≡ Ok test
    → (test.accounts ≡ accounts) × (steps ≡ Ok test.steps)
with_steps accounts test (Err line) e = absurd cc
with_steps accounts test (Ok steps) e =
    let same : record { accounts = accounts; steps = steps } ≡ test = cc in
    (ap (λ (t : Test). t.accounts) (sym same), ap (λ (t : Test). let read : Read = Ok t.steps in read) same)

-- a test is read if the script and the steps are
read_by : (text : List ℕ) (test : Test) (script : Result ScriptModel Fault) → script_of text ≡ script
    → test_by script (λ accounts. steps_from accounts 1 false (lines_of text)) ≡ Ok test → IsReadAs text test
read_by text test (Err fault) is e = absurd cc
read_by text test (Ok script) is e =
    let with = with_steps script.accounts test (steps_from script.accounts 1 false (lines_of text)) e in
    record {
      script = script;
      is_script = is;
      are_steps = ap (λ (a : Accounts). steps_from a 1 false (lines_of text)) with.0 ∙ with.1;
      accounts = with.0;
    }

-- the test of a text is read in this way
pub read_as : (text : List ℕ) (test : Test) → test_of text ≡ Ok test → IsReadAs text test
read_as text test is = read_by text test (script_of text) refl is

-- a script within the limits is read by its lines
by_lines : (text : List ℕ) (script : ScriptModel) → script_of text ≡ Ok script → with_lines nothing_read 0 (lines_of text) ≡ Ok script
unfolding reading
by_lines text script is = by (is_too_long text) is
  where
    by : (b : Bool) → (if b then Err TooLong else with_lines nothing_read 0 (lines_of text)) ≡ Ok script
        → with_lines nothing_read 0 (lines_of text) ≡ Ok script
    by true e = absurd cc
    by false e = e

-- one result has one script
same_script : (a b : ScriptModel) → (let read : Result ScriptModel Fault = Ok a in read) ≡ Ok b → a ≡ b
same_script a b e = cc

-- the calls of a test are those of its script
pub tests_make_the_calls : TestsMakeTheCalls
tests_make_the_calls text script test is reads =
    let as_read = read_as text test reads in
    let same = same_script as_read.script script (sym as_read.is_script ∙ is) in (
      as_read.accounts ∙ ap (λ (r : ScriptModel). r.accounts) same,
      sym (same_calls test.accounts nothing_read script 0 false (lines_of text) test.steps (by_lines text script is) as_read.are_steps),
    )

-- a test has as many checks as expectations
pub test_counted : (text : List ℕ) (test : Test) → test_of text ≡ Ok test → length (checks_of false test) ≡ expectation_count test.steps
test_counted text test reads =
    let is = read_as text test reads in
    let ordered = in_order test.accounts 1 false (lines_of text) test.steps is.are_steps in
    let own = checks_from false test.accounts (boot test.accounts) None test.steps in
    let both : length (checks_of false test) ≡ length own + length (never_checks test) = length-append own (never_checks test) in
    let each : length (never_checks test) ≡ length (nevers_in test.steps) =
    length-map (nevers_in test.steps) (never_check test.accounts (calls_in test.steps)) in
    omega (arith, both, each, steps_counted test.accounts (boot test.accounts) None test.steps ordered)
