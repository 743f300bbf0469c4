-- A script in which each line of a job is a comment is the script without the job's calls.
use Rattle.std.proofs.Common.{◌≡◌, ℕ, ◌+◌, Bool, true, false, List, [], ◌∷◌, ◌++◌, map, cond, Some, refl, sym, ap, ◌∙◌, subst, append-nil, inr}
use Rattle.std.specs.Prelude.{codes, not}
use Rattle.std.proofs.lemmas.List.Elements.{filter-append}
use Rattle.histar_flat.specs.declared.calls.CallLine.{CallLine}
use Rattle.histar_flat.specs.declared.calls.UnixCall.{UnixCall}
use Rattle.histar_flat.specs.Words.{ProcName}
use Rattle.histar_flat.specs.PathOrder.{under_process}
use Rattle.histar_flat.specs.Meaning.{without}
use Rattle.histar_script.specs.declared.items.Item.{Item}
use Rattle.histar_script.specs.declared.items.Item.TheVariants as items
use Rattle.histar_script.specs.Script.{ScriptModel, nothing_read, without_job}
use Rattle.histar_script.specs.Lines.{lines_of, is_plain}
use Rattle.histar_script.specs.Grammar.{Says, Adds, Takes, TakesLines}
use Rattle.histar_script.specs.Laws.{is_job_item, line_without, CommentsLeaveOut}
use Rattle.histar_script.proofs.ItemsBack.{item_again}

-- `#` is a comment
hash : Says (codes "#") items.Comment
unfolding is_plain
hash = inr (refl, ([], refl))

module _ (job : ProcName) where
  -- a script without the job's calls
  abbrev left : ScriptModel → ScriptModel
  left = without_job job

  -- a line stays if its item is not the job's
  line_stays : (line : List ℕ) (item : Item) → Says line item → is_job_item job (Some item) ≡ false → line_without job line ≡ line
  line_stays line item says other = ap (λ (b : Bool). cond b (codes "#") line) (ap (is_job_item job) (item_again line item says) ∙ other)

  -- a line becomes `#` if its item is the job's
  line_goes : (line : List ℕ) (item : Item) → Says line item → is_job_item job (Some item) ≡ true → line_without job line ≡ codes "#"
  line_goes line item says own = ap (λ (b : Bool). cond b (codes "#") line) (ap (is_job_item job) (item_again line item says) ∙ own)

  -- one more call of the job doesn't change the calls without the job's
  call_goes : (calls : List CallLine) (c : CallLine) → under_process job c.process ≡ true → without job (calls ++ c ∷ []) ≡ without job calls
  call_goes calls c own =
      filter-append (λ x. not (under_process job x.process)) calls (c ∷ [])
      ∙ ap (λ (t : Bool). without job calls ++ (cond (not t) (c ∷ []) [])) own ∙ append-nil (without job calls)

  -- one more call of another process is one more call without the job's
  call_stays : (calls : List CallLine) (c : CallLine) → under_process job c.process ≡ false
      → without job (calls ++ c ∷ []) ≡ without job calls ++ c ∷ []
  call_stays calls c other =
      filter-append (λ x. not (under_process job x.process)) calls (c ∷ [])
      ∙ ap (λ (t : Bool). without job calls ++ (cond (not t) (c ∷ []) [])) other

  -- a line that stays is taken as before
  stays : (old mid : ScriptModel) (n : ℕ) (line : List ℕ) (item : Item) → Says line item
      → is_job_item job (Some item) ≡ false → Adds (left old) n item (left mid)
      → Takes (left old) n (line_without job line) (left mid)
  stays old mid n line item says other adds =
      subst (λ (l : List ℕ). Takes (left old) n l (left mid)) (sym (line_stays line item says other)) (item, says, adds)

  -- a call line that is taken is taken without the job too
  call_taken : (old mid : ScriptModel) (n : ℕ) (line : List ℕ) (p : ProcName) (c : UnixCall)
      → Says line (items.Call p c) → Adds old n (items.Call p c) mid → (b : Bool) → under_process job p ≡ b
      → Takes (left old) n (line_without job line) (left mid)
  call_taken old mid n line p c says adds true own =
      let same : left mid ≡ left old =
      ap left adds.2
      ∙ ap (λ (calls : List CallLine). record { accounts = old.accounts; calls = calls })
      (call_goes old.calls (record { line = n; process = p; call = c }) own) in
      subst (λ (l : List ℕ). Takes (left old) n l (left mid)) (sym (line_goes line (items.Call p c) says own)) (items.Comment, hash, same)
  call_taken old mid n line p c says adds false other =
      let more =
      ap left adds.2
      ∙ ap (λ (calls : List CallLine). record { accounts = old.accounts; calls = calls })
      (call_stays old.calls (record { line = n; process = p; call = c }) other) in
      stays old mid n line (items.Call p c) says other (adds.0, adds.1, more)

  -- a line that is taken is taken without the job too
  taken : (old mid : ScriptModel) (n : ℕ) (line : List ℕ) → Takes old n line mid → Takes (left old) n (line_without job line) (left mid)
  taken old mid n line (items.Comment, says, adds) = stays old mid n line items.Comment says refl (ap left adds)
  taken old mid n line (items.User u, says, adds) =
      stays old mid n line (items.User u) says refl (ap (without job) adds.0, adds.1, adds.2, adds.3, ap left adds.4)
  taken old mid n line (items.Group g, says, adds) =
      stays old mid n line (items.Group g) says refl
      (ap (without job) adds.0, adds.1, adds.2, adds.3, adds.4, ap left adds.5)
  taken old mid n line (items.Call p c, says, adds) = call_taken old mid n line p c says adds (under_process job p) refl

  -- all lines that are taken are taken without the job too
  all_taken : (old new : ScriptModel) (n : ℕ) (lines : List (List ℕ)) → TakesLines old n lines new
      → TakesLines (left old) n (map (line_without job) lines) (left new)
  all_taken old new n [] e = ap left e
  all_taken old new n (line ∷ lines) (mid, takes, rest) = (left mid, taken old mid (n + 1) line takes, all_taken mid new (n + 1) lines rest)

-- the script of these lines is the script without the job's calls
pub comments_leave_out : CommentsLeaveOut
comments_leave_out job text other s is same = (
  subst (λ (lines : List (List ℕ)). TakesLines nothing_read 0 lines (without_job job s)) (sym same)
      (all_taken job nothing_read s 0 (lines_of text) is.0),
  is.1,
)
