-- A session that takes lines back, or enters them again.
use Rattle.std.proofs.Common.{◌≡◌, ℕ, ◌-◌, List, [], ◌++◌, length, take, drop, Option, None, Some}
use Rattle.std.proofs.Common.{Err, refl, sym, ap, subst, ◌∙◌, append_assoc}
use Rattle.std.proofs.lemmas.List.{take-append-drop}
use Rattle.std.specs.Global.{Vec}
use Rattle.histar_script.specs.declared.fault.Fault.TheVariants.{BadScript}
use Rattle.histar_script.specs.Laws.{EndsItsLines}
use Rattle.histar_script.specs.Lines.{lines_of}
use Rattle.histar_script.specs.Reading.{script_of}
use Rattle.histar_dialogue.specs.declared.commands.Command.TheVariants as commands
use Rattle.histar_dialogue.specs.declared.running.Running.{Running}
use Rattle.histar_dialogue.specs.declared.session.Session.{Session}
use Rattle.histar_dialogue.specs.Running.{Ran}
use Rattle.histar_dialogue.specs.Session.{Becomes, FollowsSo, IsBegun, IsRight, IsRunning, ObeysCommand, answers_of, talk_of}
use Rattle.histar_dialogue.specs.Shelf.{Saved}
use Rattle.histar_dialogue.specs.Steps.{IsRestarted}
use Rattle.histar_dialogue.specs.Talk.{bytes_of_lines, cut_at, entered_again, grown_by}
use Rattle.histar_dialogue.proofs.Fronts.{cut_ends, front_begun, joined_ends, lacks_one}

module _ (first : ℕ) (old mid : Session) (text undone : Vec ℕ) (found : Option Running) where
  -- with a text and lines behind it that are a session together it is right
  right_so : IsRestarted old mid text.items found → IsRunning text.items found → EndsItsLines text.items → EndsItsLines undone.items
      → IsBegun (text.items ++ undone.items) → IsRight (record mid { undone = undone })
  right_so restarted runs ends undone_ends whole = record {
    ends = subst EndsItsLines (sym restarted.text) ends;
    count = restarted.count ∙ ap (λ (l : List ℕ). length (lines_of l)) (sym restarted.text);
    running =
        subst (λ (l : List ℕ). IsRunning l mid.running) (sym restarted.text)
        (subst (IsRunning text.items) (sym restarted.running) runs);
    undone_ends = undone_ends;
    whole = subst (λ (l : List ℕ). IsBegun (l ++ undone.items)) (sym restarted.text) whole;
  }

-- a session became a script that was run
pub ran_text : (first : ℕ) (old mid : Session) (text undone : Vec ℕ) (r : Running) (said : List ℕ) → Ran first text.items r said
    → IsRestarted old mid text.items (Some r) → Becomes first old (record mid { undone = undone }) text.items undone.items said
ran_text first old mid text undone r said ran restarted ends undone_ends whole = record {
  talk = λ saved i. record { text = restarted.text i; undone = undone.items; speaker = restarted.speaker i; saved = saved };
  said_so = ran.said ∙ ap (answers_of first) (sym ran.has_run.is_script);
  right = right_so first old mid text undone (Some r) restarted (ran.script, ran.has_run) ends undone_ends whole;
}

-- a session lacks a user now
pub lacks_now : (first : ℕ) (old mid : Session) (text undone : Vec ℕ) (n : ℕ) (said : List ℕ) → script_of text.items ≡ Err (BadScript n)
    → IsRestarted old mid text.items None → said ≡ [] → Becomes first old (record mid { undone = undone }) text.items undone.items said
lacks_now first old mid text undone n said bad restarted none ends undone_ends whole = record {
  talk = λ saved i. record { text = restarted.text i; undone = undone.items; speaker = restarted.speaker i; saved = saved };
  said_so = none ∙ ap (answers_of first) (sym bad);
  right =
      right_so first old mid text undone None restarted
      (lacks_one text.items n (front_begun text.items undone.items ends whole) bad) ends undone_ends whole;
}

module _ (first : ℕ) (old new : Session) (text undone said : List ℕ) where
  -- some lines were taken back
  pub back : (at n : ℕ) → at ≡ bytes_of_lines (old.count - n) old.text.items → text ≡ take at old.text.items
      → undone ≡ drop at old.text.items ++ old.undone.items → Becomes first old new text undone said
      → FollowsSo (ObeysCommand (commands.Undo n)) old new []
  back at n place front behind becomes right =
      let cut = cut_ends (old.count - n) old.text.items right.ends in
      let here = sym place in
      let done =
      becomes
      (subst EndsItsLines (sym front) (subst (λ (k : ℕ). EndsItsLines (take k old.text.items)) here cut.0))
      (subst EndsItsLines (sym behind) (joined_ends (drop at old.text.items) old.undone.items
      (subst (λ (k : ℕ). EndsItsLines (drop k old.text.items)) here cut.1) right.undone_ends))
      (subst IsBegun (sym joined) right.whole) in (
        λ saved. (
          done.talk saved ∙ (λ i. record { text = front i; undone = behind i; speaker = old.speaker; saved = saved })
              ∙ ap (λ (k : ℕ). cut_at k (talk_of saved old)) (place ∙ ap (λ (c : ℕ). bytes_of_lines (c - n) old.text.items) right.count),
          refl,
        ),
        done.right,
      )
    where
      joined : text ++ undone ≡ old.text.items ++ old.undone.items
      joined =
          (λ i. front i ++ behind i) ∙ sym (append_assoc (take at old.text.items) (drop at old.text.items) old.undone.items)
          ∙ ap (λ (l : List ℕ). l ++ old.undone.items) (take-append-drop at old.text.items)

  -- some lines were entered again
  pub again : (at n : ℕ) → at ≡ bytes_of_lines n old.undone.items → text ≡ old.text.items ++ take at old.undone.items
      → undone ≡ drop at old.undone.items → first ≡ old.count → Becomes first old new text undone said
      → FollowsSo (ObeysCommand (commands.Redo n)) old new said
  again at n place front behind begins becomes right =
      let cut = cut_ends n old.undone.items right.undone_ends in
      let here = sym place in
      let done =
      becomes
      (subst EndsItsLines (sym front) (joined_ends old.text.items (take at old.undone.items) right.ends
      (subst (λ (k : ℕ). EndsItsLines (take k old.undone.items)) here cut.0)))
      (subst EndsItsLines (sym behind) (subst (λ (k : ℕ). EndsItsLines (drop k old.undone.items)) here cut.1))
      (subst IsBegun (sym joined) right.whole) in (
        λ saved. (
          done.talk saved ∙ now saved,
          done.said_so ∙ (λ i. answers_of ((begins ∙ right.count) i) (script_of (longer i))),
        ),
        done.right,
      )
    where
      longer : text ≡ old.text.items ++ take (bytes_of_lines n old.undone.items) old.undone.items
      longer = front ∙ ap (λ (k : ℕ). old.text.items ++ take k old.undone.items) place

      now : (saved : Saved)
          → record { text = text; undone = undone; speaker = old.speaker; saved = saved } ≡ entered_again n (talk_of saved old)
      now saved =
          (λ i. record { text = front i; undone = behind i; speaker = old.speaker; saved = saved })
          ∙ ap (λ (k : ℕ). grown_by k (talk_of saved old)) place

      joined : text ++ undone ≡ old.text.items ++ old.undone.items
      joined =
          (λ i. front i ++ behind i) ∙ append_assoc old.text.items (take at old.undone.items) (drop at old.undone.items)
          ∙ ap (λ (l : List ℕ). old.text.items ++ l) (take-append-drop at old.undone.items)
