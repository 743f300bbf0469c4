-- The lines of what a source gave, one after another.
use Rattle.std.proofs.Common.{◌≡◌, ℕ, ◌⊎◌, Bool, true, false, eqb, ◌||◌, List, [], ◌∷◌, ◌++◌, Option, None, Some}
use Rattle.std.proofs.Common.{refl, sym, ap, ◌∙◌, subst, inl, inr, append_assoc, append-nil}
use Rattle.std.specs.Prelude.{MatchOption, if◌then◌else◌}
use Rattle.std.specs.Global.{Vec}
use Rattle.std.specs.Io.KnownBytes.{IsAtEnd}
use Rattle.histar_flat.specs.Words.{split_at_first}
use Rattle.histar_script.specs.Lines.{lines_of, onto_line}
use Rattle.histar_dialogue.specs.declared.input.Input.{Input}
use Rattle.histar_dialogue.specs.Input.{ComesNext, Fills, SplitsLine, TakesLine, TakesNext, WaitsBehind, has_feed}

-- a text and what is behind its first line end
abbrev Parted : Type 0
Parted = List ℕ × Option (List ℕ)

-- a text that has a line end has the line before it, whatever comes behind
pub line_first : (text line rest more : List ℕ) → split_at_first 10 text ≡ (line, Some rest)
    → lines_of (text ++ more) ≡ line ∷ lines_of (rest ++ more)
unfolding split_at_first lines_of
line_first [] line rest more is = let no : None ≡ Some rest = ap (λ (p : Parted). p.1) is in absurd cc
line_first (b ∷ bs) line rest more is = by (eqb b 10) is (λ e. line_first bs (split_at_first 10 bs).0 rest more e)
  where
    by : (t : Bool)
        → (if◌then◌else◌ {A = Parted} t ([], Some bs) (b ∷ (split_at_first 10 bs).0, (split_at_first 10 bs).1)) ≡ (line, Some rest)
        → (split_at_first 10 bs ≡ ((split_at_first 10 bs).0, Some rest) → lines_of (bs ++ more) ≡ (split_at_first 10 bs).0
        ∷ lines_of (rest ++ more))
        → (if t then [] ∷ lines_of (bs ++ more) else onto_line b (lines_of (bs ++ more))) ≡ line ∷ lines_of (rest ++ more)
    by true e later =
        let first : [] ≡ line = ap (λ (p : Parted). p.0) e in
        let same : Some bs ≡ Some rest = ap (λ (p : Parted). p.1) e in
        let back : bs ≡ rest = cc in
        rw (sym first, sym back) refl
    by false e later =
        let first : b ∷ (split_at_first 10 bs).0 ≡ line = ap (λ (p : Parted). p.0) e in
        let back : (split_at_first 10 bs).1 ≡ Some rest = ap (λ (p : Parted). p.1) e in
        let lines = later (ap (λ (o : Option (List ℕ)). ((split_at_first 10 bs).0, o)) back) in
        ap (onto_line b) lines ∙ ap (λ (l : List ℕ). l ∷ lines_of (rest ++ more)) first

-- a text without a line end is one line, if it has a byte
pub line_alone : (text line : List ℕ) → split_at_first 10 text ≡ (line, None) → (text ≡ [] → ⊥) → lines_of text ≡ line ∷ []
unfolding split_at_first lines_of
line_alone [] line is some = absurd (some refl)
line_alone (b ∷ bs) line is some = by (eqb b 10) bs is (λ e. line_alone bs (split_at_first 10 bs).0 e)
  where
    last : (rest : List ℕ) → (split_at_first 10 rest ≡ ((split_at_first 10 rest).0, None)) → (rest ≡ [] → ⊥)
        ⊎ ((lines_of rest ≡ []) × ((split_at_first 10 rest).0 ≡ []))
    last [] e = inr (refl, refl)
    last (c ∷ cs) e = inl (λ none. absurd cc)

    by : (t : Bool) (rest : List ℕ)
        → (if◌then◌else◌ {A = Parted} t ([], Some rest) (b ∷ (split_at_first 10 rest).0, (split_at_first 10 rest).1)) ≡ (line, None)
        → (split_at_first 10 rest ≡ ((split_at_first 10 rest).0, None) → (rest ≡ [] → ⊥) → lines_of rest
        ≡ (split_at_first 10 rest).0 ∷ [])
        → (if t then [] ∷ lines_of rest else onto_line b (lines_of rest)) ≡ line ∷ []
    by true rest e later = let no : Some rest ≡ None = ap (λ (p : Parted). p.1) e in absurd cc
    by false rest e later =
        let first : b ∷ (split_at_first 10 rest).0 ≡ line = ap (λ (p : Parted). p.0) e in
        let back : (split_at_first 10 rest).1 ≡ None = ap (λ (p : Parted). p.1) e in
        let whole : split_at_first 10 rest
        ≡ ((split_at_first 10 rest).0, None) = ap (λ (o : Option (List ℕ)). ((split_at_first 10 rest).0, o)) back in
        elim (last rest whole) [
          | inl some ↦ ap (onto_line b) (later whole some) ∙ ap (λ (l : List ℕ). l ∷ []) first
          | inr none ↦
              ap (onto_line b) none.0 ∙ ap (λ (l : List ℕ). (b ∷ l) ∷ []) (sym none.1) ∙ ap (λ (l : List ℕ). l ∷ []) first
        ]

-- where a line end comes behind other bytes, the text has one
pub feed_behind : (front back : List ℕ) → has_feed back ≡ true → has_feed (front ++ back) ≡ true
feed_behind [] back h = h
feed_behind (b ∷ bs) back h = by (eqb b 10) (feed_behind bs back h)
  where
    by : (t : Bool) → has_feed (bs ++ back) ≡ true → (t || has_feed (bs ++ back)) ≡ true
    by true later = refl
    by false later = later

-- a text that has a line end has a part behind it
pub feed_parts : (text line : List ℕ) → split_at_first 10 text ≡ (line, None) → has_feed text ≡ true → ⊥
unfolding split_at_first
feed_parts [] line is h = absurd cc
feed_parts (b ∷ bs) line is h = by (eqb b 10) is h (λ e. feed_parts bs (split_at_first 10 bs).0 e)
  where
    by : (t : Bool)
        → (if◌then◌else◌ {A = Parted} t ([], Some bs) (b ∷ (split_at_first 10 bs).0, (split_at_first 10 bs).1)) ≡ (line, None)
        → (t || has_feed bs) ≡ true
        → (split_at_first 10 bs ≡ ((split_at_first 10 bs).0, None) → has_feed bs ≡ true → ⊥) → ⊥
    by true e h later = let no : Some bs ≡ None = ap (λ (p : Parted). p.1) e in absurd cc
    by false e h later =
        let back : (split_at_first 10 bs).1 ≡ None = ap (λ (p : Parted). p.1) e in
        later (ap (λ (o : Option (List ℕ)). ((split_at_first 10 bs).0, o)) back) h

-- no byte has no line
pub nothing_left : lines_of [] ≡ []
unfolding lines_of
nothing_left = refl

-- bytes that were taken wait behind the others
moved : (was is : Bool) (before taken : List ℕ) (done : List (List ℕ)) (old new : List ℕ) → new ≡ old ++ taken
    → (was ≡ true → (taken ≡ []) × (is ≡ true)) → WaitsBehind was before done old → WaitsBehind is (before ++ taken) done new
moved true true before taken done old new waits still w =
    let none = (still refl).0 in
    ap lines_of (ap (λ (l : List ℕ). before ++ l) none ∙ append-nil before) ∙ w
    ∙ ap (λ (l : List ℕ). done ++ lines_of l) (sym (waits ∙ ap (λ (l : List ℕ). old ++ l) none ∙ append-nil old))
moved true false before taken done old new waits still w = let no = (still refl).1 in absurd cc
moved false true before taken done old new waits still w = w taken ∙ ap (λ (l : List ℕ). done ++ lines_of l) (sym waits)
moved false false before taken done old new waits still w = λ more.
    ap lines_of (append_assoc before taken more) ∙ w (taken ++ more)
    ∙ ap (λ (l : List ℕ). done ++ lines_of l) (sym (append_assoc old taken more) ∙ ap (λ (l : List ℕ). l ++ more) (sym waits))

-- a line was taken off what waits
module _ (all : List ℕ) (done : List (List ℕ)) (old line new : List ℕ) (some : old ≡ [] → ⊥) where
  taken_off : (is : Bool) → SplitsLine old line new → (is ≡ true) ⊎ (has_feed old ≡ true) → WaitsBehind is all done old
      → WaitsBehind is all (done ++ line ∷ []) new
  taken_off false (inl e) ready w = λ more.
      w more ∙ ap (λ (l : List (List ℕ)). done ++ l) (line_first old line new more e)
      ∙ sym (append_assoc done (line ∷ []) (lines_of (new ++ more)))
  taken_off true (inl e) ready w =
      w ∙ ap (λ (l : List (List ℕ)). done ++ l)
      (sym (ap lines_of (append-nil old)) ∙ line_first old line new [] e ∙ ap (λ (l : List ℕ). line ∷ lines_of l) (append-nil new))
      ∙ sym (append_assoc done (line ∷ []) (lines_of new))
  taken_off true (inr e) ready w =
      w ∙ ap (λ (l : List (List ℕ)). done ++ l) (line_alone old line e.0 some)
      ∙ sym (append-nil (done ++ line ∷ []))
      ∙ ap (λ (l : List (List ℕ)). (done ++ line ∷ []) ++ l) (sym nothing_left ∙ ap lines_of (sym e.1))
  taken_off false (inr e) (inl never) w = absurd cc
  taken_off false (inr e) (inr feed) w = absurd (feed_parts old line e.0 feed)

-- nothing waits
all_done : (is : Bool) (all : List ℕ) (done : List (List ℕ)) (old : List ℕ) → old ≡ [] → WaitsBehind is all done old → lines_of all
    ≡ done
all_done true all done old none w =
    w ∙ ap (λ (l : List ℕ). done ++ lines_of l) none ∙ ap (λ (l : List (List ℕ)). done ++ l) nothing_left ∙ append-nil done
all_done false all done old none w =
    sym (ap lines_of (append-nil all)) ∙ w [] ∙ ap (λ (l : List ℕ). done ++ lines_of l) (append-nil old ∙ none)
    ∙ ap (λ (l : List (List ℕ)). done ++ l) nothing_left ∙ append-nil done

module _ (left rest : Option (List ℕ)) (old mid new : Input) (filled : Fills left rest old mid) where
  -- the next line of what waits and of what was taken
  next_comes : (line : Option (Vec ℕ)) → TakesLine mid new line → ComesNext filled.taken old new line
  next_comes None takes before done w =
      all_done mid.is_ended (before ++ filled.taken) done mid.waiting.items takes.1.0
      (moved old.is_ended mid.is_ended before filled.taken done old.waiting.items mid.waiting.items filled.waits
      (λ e. ((filled.still e).0, (filled.still e).1)) w)
  next_comes (Some line) takes before done w =
      subst (λ (is : Bool). WaitsBehind is (before ++ filled.taken) (done ++ line.items ∷ []) new.waiting.items) (sym takes.0)
      (taken_off (before ++ filled.taken) done mid.waiting.items line.items new.waiting.items takes.1.1 mid.is_ended takes.1.0 filled.ready
      (moved old.is_ended mid.is_ended before filled.taken done old.waiting.items mid.waiting.items filled.waits
      (λ e. ((filled.still e).0, (filled.still e).1)) w))

  -- if there is no line, the source has ended
  none_last : (line : Option (Vec ℕ)) → TakesLine mid new line → MatchOption line (new.is_ended ≡ true) (λ _. Unit {0})
  none_last (Some line) takes = tt
  none_last None takes = elim filled.ready [
    | inl ended ↦ takes.0 ∙ ended
    | inr feed ↦ let no : has_feed [] ≡ true = subst (λ (l : List ℕ). has_feed l ≡ true) takes.1.0 feed in absurd cc
  ]

  -- where the source has ended, it is at its end
  at_end : (old.is_ended ≡ true → IsAtEnd left) → mid.is_ended ≡ true → IsAtEnd rest
  at_end was ended = elim (filled.ended ended) [
    | inl before ↦ subst IsAtEnd (sym (filled.still before).2) (was before)
    | inr now ↦ now
  ]

  pub takes_next : (line : Option (Vec ℕ)) → TakesLine mid new line → TakesNext left rest old new line
  takes_next line takes = record {
    taken = filled.taken;
    consumed = filled.consumed;
    next = next_comes line takes;
    ended = λ was ended. at_end was (sym takes.0 ∙ ended);
    last = none_last line takes;
  }
