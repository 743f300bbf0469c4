-- No two categories that are used have one purpose.
use Rattle.std.proofs.Common.{◌≡◌, ℕ, ◌+◌, length, arith, ap}
use Rattle.histar_refinement.specs.Categories.{CategoryName as names}
use Rattle.histar_names.specs.declared.purposes.Purpose.{Purpose}
use Rattle.histar_names.specs.declared.purposes.Purpose.TheVariants.{Reads, Writes}
use Rattle.histar_run_explain.specs.Complete.{PurposesDiffer}

-- the number of an owner
abbrev owner : Purpose → ℕ
owner (Reads i) = i
owner (Writes i) = i
owner p = 0

-- No two categories that are used have one purpose.
pub purposes_differ : PurposesDiffer
purposes_differ accounts f names.OfBoot names.OfBoot used other same = cc
purposes_differ accounts f (names.ReadsUser i) (names.ReadsUser j) used other same = cc
purposes_differ accounts f (names.WritesUser i) (names.WritesUser j) used other same = cc
purposes_differ accounts f (names.ReadsProcess me) (names.ReadsProcess you) used other same = cc
purposes_differ accounts f (names.WritesProcess me) (names.WritesProcess you) used other same = cc
purposes_differ accounts f (names.OfJob job) (names.OfJob other_job) used other same = cc
purposes_differ accounts f (names.ReadsGroup k) (names.ReadsGroup m) used other same =
    let e : length accounts.users + k ≡ length accounts.users + m = ap owner same in
    let is : k ≡ m = omega (arith, e) in
    ap names.ReadsGroup is
purposes_differ accounts f (names.WritesGroup k) (names.WritesGroup m) used other same =
    let e : length accounts.users + k ≡ length accounts.users + m = ap owner same in
    let is : k ≡ m = omega (arith, e) in
    ap names.WritesGroup is
purposes_differ accounts f (names.ReadsUser i) (names.ReadsGroup k) used other same =
    let e : i ≡ length accounts.users + k = ap owner same in
    let low = other.0 in
    absurd (omega (arith, e, used, low))
purposes_differ accounts f (names.ReadsGroup k) (names.ReadsUser i) used other same =
    let e : length accounts.users + k ≡ i = ap owner same in
    let low = used.0 in
    absurd (omega (arith, e, other, low))
purposes_differ accounts f (names.WritesUser i) (names.WritesGroup k) used other same =
    let e : i ≡ length accounts.users + k = ap owner same in
    let low = other.0 in
    absurd (omega (arith, e, used, low))
purposes_differ accounts f (names.WritesGroup k) (names.WritesUser i) used other same =
    let e : length accounts.users + k ≡ i = ap owner same in
    let low = used.0 in
    absurd (omega (arith, e, other, low))
purposes_differ accounts f c d used other same = absurd cc
