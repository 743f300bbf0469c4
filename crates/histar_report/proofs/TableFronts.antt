-- A prefix of a table that is too long to be shown is shown as the table is.
use Rattle.std.specs.Global.{Vec}
use Rattle.std.specs.Prelude.{◌≡◌, ℕ, ◌+◌, true, nat_lt, List, [], ◌++◌, length, None, Some, Result, Ok, Err, IsOk, refl}
use Rattle.std.proofs.Common.{arith, ap, inl, inr, subst, sym, ◌∙◌}
use Rattle.std.proofs.lemmas.Bool.Decides.{nat_tests}
use Rattle.std.proofs.lemmas.List.{length-append}
use Rattle.histar_run_explain.specs.Output.{GivesText}
use Rattle.histar_script.specs.declared.fault.Fault.{Fault}
use Rattle.histar_script.specs.declared.fault.Fault.TheVariants.{BadScript, TooLong, OutOfMemory, ReadFailed, WriteFailed}
use Rattle.histar_access.specs.Session.{AccessText, table_text}
use Rattle.histar_page.specs.Page.{Sources, is_long, page_of}
use Rattle.histar_page.proofs.PageLemmas.{long_tables_are_alike}
use Rattle.histar_report.specs.Session.{IsLongFront, IsShownAs, IsTable, ShowsTable}

-- a text with a prefix that is too long is too long
longer : (most : ℕ) (front rest : List ℕ) → nat_lt most (length front) ≡ true → nat_lt most (length (front ++ rest)) ≡ true
longer most front rest long =
    ap (nat_lt most) (length-append front rest) ∙ more most (length front) (length rest) long
  where
    more : (most n m : ℕ) → nat_lt most n ≡ true → nat_lt most (n + m) ≡ true
    more most n m long = grind (arith, nat_tests)

-- what was written before a write failed is shown as the table, where that is too long
pub long_table : (text kept : List ℕ) → AccessText None text (Some []) (Some kept) (Err WriteFailed) → is_long kept ≡ true
    → ShowsTable text kept
long_table text kept begun long =
    let front = begun.writes in
    let table = table_text None front.script in
    let up_to = front.written.1 in (
      table,
      record {
        faults = subst IsOk (sym front.is_read) refl;
        writes = record { script = front.script; is_read = front.is_read; written = refl };
      },
      inr (
        long,
        ap is_long up_to.parts ∙ longer _ up_to.front front.written.0 (sym (ap is_long up_to.appended) ∙ long),
      ),
    )

-- what was kept before a write failed is returned if it is too long
pub front_given : (text kept : List ℕ) (result : Result (Vec ℕ) Fault) → AccessText None text (Some []) (Some kept) (Err WriteFailed)
    → IsLongFront kept result → GivesText ShowsTable text result
front_given text kept (Ok found) begun is = subst (ShowsTable text) (sym is.0) (long_table text kept begun is.1)
front_given text kept (Err OutOfMemory) begun is = tt
front_given text kept (Err ReadFailed) begun is = absurd (cc)
front_given text kept (Err WriteFailed) begun is = absurd (cc)
front_given text kept (Err TooLong) begun is = absurd (cc)
front_given text kept (Err (BadScript n)) begun is = absurd (cc)

-- two texts that are shown alike make one page
pub shown_alike : (sources : Sources) (table : List ℕ) → IsShownAs sources.table table
    → page_of sources ≡ page_of (record sources { table = table })
shown_alike sources table (inl same) = ap (λ (t : List ℕ). page_of (record sources { table = t })) same
shown_alike sources table (inr both) = long_tables_are_alike sources table both.0 both.1
