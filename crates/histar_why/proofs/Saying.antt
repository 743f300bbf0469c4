-- The line of a refused call is that of the rules.
use Rattle.std.specs.Prelude.{◌≡◌, ℕ, Bool, true, false, List, [], length, Option, None, Some, MatchBool, MatchOption, is_some, option_map, refl}
use Rattle.std.proofs.Common.{ap, sym, ◌∙◌, subst}
use Rattle.std.proofs.lemmas.Bool.{true≢false}
use Rattle.std.proofs.lemmas.Option.{none-some, same_Some}
use Rattle.histar_flat.specs.declared.calls.CallLine.{CallLine}
use Rattle.histar_flat.specs.declared.calls.UnixCall.{UnixCall}
use Rattle.histar_flat.specs.declared.replies.Errno.{Errno}
use Rattle.histar_flat.specs.declared.replies.Reply.{Reply}
use Rattle.histar_flat.specs.Words.{ProcName}
use Rattle.histar_flat.specs.Accounts.{Accounts}
use Rattle.histar_flat.specs.Classes.{Process}
use Rattle.histar_flat.specs.FlatState.{Flat, IsTree}
use Rattle.histar_flat.specs.FlatCalls.{answer, changed, flat_after, flat_by, flat_or, refused, reply_by, reply_or, reply_to, running}
use Rattle.histar_flat.proofs.Trees.{paths_are_a_tree}
use Rattle.histar_object.specs.State.{State}
use Rattle.histar_syscall.specs.KernelModel.{state}
use Rattle.histar_layout.specs.UserTable.{without_passwords}
use Rattle.histar_programs.specs.declared.roots.Roots.{Roots}
use Rattle.histar_programs.specs.Start.{roots_of}
use Rattle.histar_names.specs.Births.{Births}
use Rattle.histar_reasons.specs.Laws.{is_refusal}
use Rattle.histar_reasons.specs.Reasons.{Reason, errno_of, why}
use Rattle.histar_reasons.specs.Sentences.{absence_text, line_text, sentence, sentence_by, why_text}
use Rattle.histar_reasons.proofs.Agreeing.{refusals_have_reasons}
use Rattle.histar_reasons.proofs.Spoken.{refusals_have_sentences}
use Rattle.histar_shell.specs.Machine.{MachineModel}
use Rattle.histar_why.specs.declared.asked.Asked.{Asked}
use Rattle.histar_why.specs.declared.names.Caller.{Caller}
use Rattle.histar_why.specs.Absences.{absence_by}
use Rattle.histar_why.specs.Asked.{IsAsked}
use Rattle.histar_why.specs.Names.{IsReached, Knows, process_of, running_at}
use Rattle.histar_why.specs.declared.implied.Implied.{Implied}
use Rattle.histar_why.specs.Logging.{SaysIfRefused, SaysLine, SaysReason, SaysWhy, SaysWords, words_of}
use Rattle.histar_why.specs.Implied.{ImpliesReason, implied_words}
use Rattle.histar_why.proofs.ByRefusal.{implied_said}
use Rattle.histar_why.proofs.Evaluating.{reason_is}
use Rattle.histar_why.proofs.Found.{absence_is, running_found}

module _ (accounts : Accounts) (f : Flat) (reached : IsReached accounts f) (line : CallLine) where
  abbrev me : ProcName
  me = line.process

  abbrev call : UnixCall
  call = line.call

  tree : IsTree f
  tree = subst IsTree (sym reached.1) (paths_are_a_tree accounts reached.0)

  -- there is a sentence exactly where the reply is a refusal
  spoken : is_some (sentence accounts f me call) ≡ is_refusal (reply_to accounts f me call)
  spoken =
      subst (λ (x : Flat). is_some (sentence accounts x me call) ≡ is_refusal (reply_to accounts x me call)) (sym reached.1)
      (refusals_have_sentences accounts reached.0 me call)

  -- no reason is one of no refusal
  no_reason : (p : Process) → refused accounts f me p call ≡ None → is_some (why accounts f me p call) ≡ false
  no_reason p passes = by (why accounts f me p call) (refusals_have_reasons accounts f tree me p call ∙ passes)
    where
      by : (o : Option Reason) → option_map errno_of o ≡ None → is_some o ≡ false
      by None e = refl
      by (Some r) e = absurd (none-some _ (sym e))

  some_words : (p : Process) (o : Option Reason) → is_some (option_map (why_text me p) o) ≡ is_some o
  some_words p None = refl
  some_words p (Some r) = refl

  -- a refused call leaves the state as it was
  nothing_changes : is_refusal (reply_to accounts f me call) ≡ true → flat_after accounts f me call ≡ f
  nothing_changes refusal = by (running f me) refl
    where
      unchanged : (p : Process) → running f me ≡ Some p → (o : Option Errno) → refused accounts f me p call ≡ o
          → flat_or o f (changed accounts f me p call) ≡ f
      unchanged p runs (Some e) is = refl
      unchanged p runs None is =
          absurd (true≢false (sym refusal ∙ sym spoken ∙ ap (λ (o : Option Process). is_some (sentence_by accounts f me o call)) runs
          ∙ some_words p (why accounts f me p call) ∙ no_reason p is))

      by : (o : Option Process) → running f me ≡ o → flat_by accounts f me o call ≡ f
      by None runs = refl
      by (Some p) runs = unchanged p runs (refused accounts f me p call) refl

  module _ (m : MachineModel) (births : Births) (known : Knows births accounts m f) (asked : Asked) (is_asked : IsAsked line asked)
      (refusal : is_refusal (reply_to accounts f me call) ≡ true) where
    abbrev s : State
    s = state m.kernel

    abbrev users : Accounts
    users = without_passwords accounts

    abbrev roots : Roots
    roots = roots_of (length accounts.users)

    -- the words of a reason are its sentence
    reason_said : (p : Process) → running f me ≡ Some p → (caller : Caller) → process_of caller ≡ p → (words : List ℕ)
        → SaysReason users roots births s caller asked words → sentence_by accounts f me (Some p) call ≡ Some words
    reason_said p runs caller is words says =
        let some : is_some (why accounts f me p call) ≡ true =
        sym (some_words p (why accounts f me p call)) ∙ sym (ap (λ (o : Option Process). is_some (sentence_by accounts f me o call)) runs)
        ∙ spoken ∙ refusal in
        let found = reason_is accounts s f births known.names tree p line caller is asked is_asked says.0 says.1 some in
        said (why accounts f me p call) some
        (says.2 ∙ (λ i. words_of (is_asked.by i) (is i) (found i)))
      where
        said : (o : Option Reason) → is_some o ≡ true → words ≡ words_of me p o → option_map (why_text me p) o ≡ Some words
        said None none e = absurd (true≢false (sym none))
        said (Some r) some e = ap Some (sym e)

    -- the words are the sentence of the call
    words_said : (words : List ℕ) → SaysWords users roots births s asked words → sentence accounts f me call ≡ Some words
    words_said words says =
        by (running f me) refl
        (subst (λ (o : Option Process). MatchOption o (words ≡ absence_text asked.process (absence_by s roots.home asked.process))
        (λ p. (caller : Caller) × (process_of caller ≡ p) × SaysReason users roots births s caller asked words))
        (ap (running_at users births s roots.home) is_asked.by ∙ running_found accounts s f births known.names me) says)
      where
        by : (o : Option Process) → running f me ≡ o
            → MatchOption o (words ≡ absence_text asked.process (absence_by s roots.home asked.process))
            (λ p. (caller : Caller) × (process_of caller ≡ p) × SaysReason users roots births s caller asked words)
            → sentence_by accounts f me o call ≡ Some words
        by None runs e =
            ap Some (sym (e ∙ (λ i. absence_text (is_asked.by i) (absence_by s roots.home (is_asked.by i)))
            ∙ ap (absence_text me) (absence_is accounts s f births known.names me)))
        by (Some p) runs says = reason_said p runs says.0 says.1 words says.2

    -- whether its refusal implies it or not
    why_said : (reply : Reply) → reply ≡ reply_to accounts f me call → (words : List ℕ) → SaysWhy users roots births s asked reply words
        → sentence accounts f me call ≡ Some words
    why_said reply is words says = by says.0 says.1 says.2
      where
        -- a call that is answered otherwise implies nothing
        answered : (p : Process) → running f me ≡ Some p → (implied : Implied) → words ≡ implied_words asked implied → (o : Option Errno)
            → refused accounts f me p call ≡ o → ImpliesReason s roots asked (reply_or o (answer f me p call)) (Some implied)
            → sentence_by accounts f me (Some p) call ≡ Some words
        answered p runs implied said None none implies =
            absurd (true≢false (sym refusal ∙ sym spoken ∙ ap (λ (o : Option Process). is_some (sentence_by accounts f me o call)) runs
            ∙ some_words p (why accounts f me p call) ∙ no_reason p none))
        answered p runs implied said (Some e) refuses implies =
            with_reason (why accounts f me p call) refl (refusals_have_reasons accounts f tree me p call ∙ refuses)
          where
            with_reason : (o : Option Reason) → why accounts f me p call ≡ o → option_map errno_of o ≡ Some e
                → option_map (why_text me p) o ≡ Some words
            with_reason None reason errno = absurd (none-some _ errno)
            with_reason (Some r) reason errno =
                ap Some (sym (said
                ∙ implied_said accounts s f births known.names tree line p asked is_asked implied r reason e (same_Some _ _ errno) implies))

        implied_by : (implied : Implied) → words ≡ implied_words asked implied → (o : Option Process) → running f me ≡ o
            → ImpliesReason s roots asked (reply_by accounts f me o call) (Some implied) → sentence_by accounts f me o call ≡ Some words
        implied_by implied said None runs implies = absurd (none-some implied (sym implies))
        implied_by implied said (Some p) runs implies = answered p runs implied said (refused accounts f me p call) refl implies

        by : (implied : Option Implied) → ImpliesReason s roots asked reply implied
            → MatchOption implied (SaysWords users roots births s asked words) (λ reason. words ≡ implied_words asked reason)
            → sentence accounts f me call ≡ Some words
        by None implies says = words_said words says
        by (Some implied) implies said =
            implied_by implied said (running f me) refl (subst (λ (r : Reply). ImpliesReason s roots asked r (Some implied)) is implies)

  -- the line is that of the rules, whether the call was refused or not
  pub line_said : (m : MachineModel) (births : Births) → Knows births accounts m (flat_after accounts f me call) → (asked : Asked)
      → IsAsked line asked → (reply : Reply) → reply ≡ reply_to accounts f me call → (text : List ℕ)
      → SaysIfRefused m births asked reply text → text ≡ line_text line.line reply (sentence accounts f me call)
  line_said m births known asked is_asked reply is text says = by (is_refusal reply) refl says
    where
      none_of : (o : Option (List ℕ)) → is_some o ≡ false → line_text line.line reply o ≡ []
      none_of None e = refl
      none_of (Some words) e = absurd (true≢false e)

      by : (b : Bool) → is_refusal reply ≡ b → MatchBool b (SaysLine m births asked reply text) (text ≡ [])
          → text ≡ line_text line.line reply (sentence accounts f me call)
      by false none e = e ∙ sym (none_of (sentence accounts f me call) (spoken ∙ ap is_refusal (sym is) ∙ none))
      by true refusal says =
          let refuses : is_refusal (reply_to accounts f me call) ≡ true = ap is_refusal (sym is) ∙ refusal in
          let here : Knows births accounts m f = subst (Knows births accounts m) (nothing_changes refuses) known in
          let words =
          subst (λ (x : Accounts × Roots). SaysWhy x.0 x.1 births (state m.kernel) asked reply says.words)
          (λ i. (here.shows.users i, here.shows.roots i)) says.says in
          says.is ∙ ap (λ (n : ℕ). line_text n reply (Some says.words)) is_asked.number
          ∙ ap (line_text line.line reply) (sym (why_said m births here asked is_asked refuses reply is says.words words))
