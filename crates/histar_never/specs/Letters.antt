-- Letters of rights that are written one after another, without those that are withheld.
use Rattle.std.specs.Prelude.{ℕ, Bool, ◌&&◌, ◌||◌, List, [], ◌++◌, codes, drop, Option, None, Some, if◌then◌else◌}
use Rattle.histar_lint.specs.Lines.{begins_with}
use Rattle.histar_rights.specs.declared.rights.Rights.{Rights}
use Rattle.histar_script.specs.Reading.{is_empty}

-- one of the letters is there
abbrev pub has_letter : Rights → Bool
has_letter r = r.stat || r.read || r.write || r.remove

-- the letters that both have
abbrev pub common : Rights → Rights → Rights
common a b = record {
  stat = a.stat && b.stat;
  read = a.read && b.read;
  write = a.write && b.write;
  remove = a.remove && b.remove;
}

-- a letter, if it is there
abbrev pub letter_if : Bool → List ℕ → List ℕ
letter_if has text = if has then text else []

-- the letters that are there, in the order of `srwd`
abbrev pub letters_text : Rights → List ℕ
letters_text r =
    letter_if r.stat (codes "s") ++ letter_if r.read (codes "r") ++ letter_if r.write (codes "w")
    ++ letter_if r.remove (codes "d")

-- the text after this letter, if it begins with the letter, and else the whole text
abbrev pub after_letter : ℕ → List ℕ → List ℕ
after_letter letter text = if begins_with letter text then drop 1 text else text

-- what remains of a text after `s`, after `r`, after `w` and after `d`, each if it is there
abbrev pub after_s : List ℕ → List ℕ
after_s text = after_letter 115 text

abbrev pub after_r : List ℕ → List ℕ
after_r text = after_letter 114 (after_s text)

abbrev pub after_w : List ℕ → List ℕ
after_w text = after_letter 119 (after_r text)

abbrev pub after_d : List ℕ → List ℕ
after_d text = after_letter 100 (after_w text)

-- the letters that a text begins with, in the order of `srwd`
abbrev pub first_letters : List ℕ → Rights
first_letters text = record {
  stat = begins_with 115 text;
  read = begins_with 114 (after_s text);
  write = begins_with 119 (after_r text);
  remove = begins_with 100 (after_w text);
}

-- the letters that a text spells, in the order of `srwd` and at least one, if it spells any
unfoldable pub letters_of : List ℕ → Option Rights
letters_of text = if is_empty (after_d text) && has_letter (first_letters text) then Some (first_letters text) else None
