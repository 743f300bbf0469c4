-- The requests of a call that are left after some of its raw calls, and the entries of a line that makes them.
use Rattle.std.proofs.Common.{◌≡◌, ℕ, false, List, [], ◌∷◌, ◌++◌, ◌⊎◌, Option, None, Some, inl}
use Rattle.std.proofs.Common.{inr, refl, sym, ap, ◌∙◌, subst, append_assoc}
use Rattle.std.proofs.Common.{Bool, true, if◌then◌else◌}
use Rattle.std.proofs.lemmas.List.{map-append, append-nil}
use Rattle.std.specs.Prelude.{map}
use Rattle.histar_flat.specs.declared.replies.Errno.{Errno}
use Rattle.histar_rules.specs.declared.raw.Denied.{Denied}
use Rattle.histar_rules.specs.declared.raw.Denied.TheVariants.{Observe, Modify, Gate, Range, TooBig}
use Rattle.histar_rules.specs.declared.raw.RawCall.{RawCall}
use Rattle.histar_trace.specs.declared.entries.TraceEntry.{TraceEntry}
use Rattle.histar_sim.specs.RawCalls.{Request, AreMade, is_of_denial, plain, unless_refused}
use Rattle.histar_sim.specs.Simulation.{errno_by_rule}
use Rattle.histar_sim.proofs.Chains.{Step, all_granted, entries_of}

-- the raw calls of requests
abbrev pub calls_of : List Request → List RawCall
calls_of requests = map (λ (r : Request). r.call) requests

plain_calls : (calls : List RawCall) → calls_of (plain calls) ≡ calls
plain_calls [] = refl
plain_calls (call ∷ calls) = ap (λ (cs : List RawCall). call ∷ cs) (plain_calls calls)

abbrev shown : Option Errno → Bool
shown None = false
shown (Some errno) = is_of_denial errno

-- the errno of a denial is one that only a denial leads to
pub of_denial : (denied : Denied) (errno : Errno) → errno_by_rule denied ≡ Some errno → is_of_denial errno ≡ true
of_denial Observe errno is = ap shown (sym is)
of_denial Modify errno is = ap shown (sym is)
of_denial Gate errno is = ap shown (sym is)
of_denial Range errno is = ap shown (sym is)
of_denial TooBig errno is = ap shown (sym is)
of_denial denied errno is = absurd cc

-- a request after whose denial no raw call is made
abbrev pub request : RawCall → Request
request call = record { call = call; if_denied = [] }

-- These are granted raw calls; or the last of them is denied, and then the call is refused by that. With this errno the call is refused.
abbrev pub EndWith : Errno → List RawCall → List Step → Type 0
EndWith errno calls steps =
    ((steps ≡ all_granted calls) × (is_of_denial errno ≡ false))
    ⊎ ((front : List RawCall) × (last : RawCall) × (denied : Denied)
    × (calls ≡ front ++ last ∷ []) × (steps ≡ all_granted front ++ (last, Some denied) ∷ []))

abbrev nothing : List Request
nothing = []

-- nothing is left of no requests
none_left : (refusal : Option Errno) → nothing ≡ unless_refused refusal nothing
none_left None = refl
none_left (Some errno) = by (is_of_denial errno)
  where
    by : (b : Bool) → nothing ≡ (if b then nothing else nothing)
    by true = refl
    by false = refl

module _ (requests : List Request) where
  -- after these raw calls these requests are left
  abbrev pub AreLeft : List RawCall → List Request → Type 0
  AreLeft calls left = requests ≡ plain calls ++ left

  -- these raw calls are all
  pub left_at_end : (calls : List RawCall) (refusal : Option Errno) → requests ≡ plain calls → AreLeft calls (unless_refused refusal [])
  left_at_end calls refusal is =
      is ∙ sym (append-nil (plain calls)) ∙ ap (λ (left : List Request). plain calls ++ left) (none_left refusal)

  -- more raw calls are made
  pub left_after : (calls more : List RawCall) (left : List Request) → AreLeft calls (plain more ++ left) → AreLeft (calls ++ more) left
  left_after calls more left are =
      are ∙ sym (append_assoc (plain calls) (plain more) left)
      ∙ ap (λ (front : List Request). front ++ left) (sym (map-append request calls more))

  -- the next one is made
  pub left_then : (calls : List RawCall) (next : RawCall) (left : List Request) → AreLeft calls (request next ∷ left)
      → AreLeft (calls ++ next ∷ []) left
  left_then calls next left are = left_after calls (next ∷ []) left are

  -- nothing is left of a call that is refused by what was read
  pub left_none : (calls : List RawCall) (refusal : Option Errno) (errno : Errno) (left : List Request) → refusal ≡ Some errno
      → is_of_denial errno ≡ false → AreLeft calls (unless_refused refusal left) → AreLeft calls []
  left_none calls refusal errno left is none are =
      are
      ∙ ap (λ (o : Option Errno). plain calls ++ unless_refused o left) is
      ∙ ap (λ (b : Bool). plain calls ++ (if b then left else [])) none

  -- all is left of a call that is refused by a denial, or of one that is allowed
  pub left_by_denial : (calls : List RawCall) (refusal : Option Errno) (errno : Errno) (left : List Request) → refusal ≡ Some errno
      → is_of_denial errno ≡ true → AreLeft calls (unless_refused refusal left) → AreLeft calls left
  left_by_denial calls refusal errno left is by_denial are =
      are
      ∙ ap (λ (o : Option Errno). plain calls ++ unless_refused o left) is
      ∙ ap (λ (b : Bool). plain calls ++ (if b then left else [])) by_denial

  pub left_allowed : (calls : List RawCall) (refusal : Option Errno) (left : List Request) → refusal ≡ None
      → AreLeft calls (unless_refused refusal left) → AreLeft calls left
  left_allowed calls refusal left is are = are ∙ ap (λ (o : Option Errno). plain calls ++ unless_refused o left) is

  -- a request is granted: what is left is that of the requests with nothing that is made where one is denied
  pub left_granted : (calls : List RawCall) (next : Request) (left : List RawCall) → AreLeft calls (next ∷ plain left)
      → plain (calls_of requests) ≡ plain (calls ++ next.call ∷ []) ++ plain left
  left_granted calls next left are =
      ap (λ (rs : List Request). plain (calls_of rs)) are
      ∙ ap plain (map-append (λ (r : Request). r.call) (plain calls) (next ∷ plain left)
      ∙ (λ i. plain_calls calls i ++ next.call ∷ plain_calls left i)
      ∙ sym (append_assoc calls (next.call ∷ []) left))
      ∙ map-append request (calls ++ next.call ∷ []) left

  module _ (line t : ℕ) where
    calls_again : (calls : List RawCall) → map (λ (x : TraceEntry). x.call) (entries_of line t (all_granted calls)) ≡ calls
    calls_again [] = refl
    calls_again (call ∷ calls) = ap (λ (cs : List RawCall). call ∷ cs) (calls_again calls)

    each_made : (all : List Request) → AreMade all (entries_of line t (all_granted (calls_of all)))
    each_made [] = refl
    each_made (r ∷ all) = (refl, each_made all)

    made_up_to : (front : List Request) (last : Request) (more : List Request) (denied : Denied)
        → AreMade (front ++ last ∷ more)
        (entries_of line t (all_granted (calls_of front) ++ (last.call, Some denied) ∷ all_granted last.if_denied))
    made_up_to [] last more denied = (refl, calls_again last.if_denied)
    made_up_to (r ∷ front) last more denied = (refl, made_up_to front last more denied)

    -- where nothing is left, the raw calls are the requests, each granted
    pub all_made : (calls : List RawCall) → AreLeft calls [] → AreMade requests (entries_of line t (all_granted calls))
    all_made calls are =
        subst (λ (rs : List Request). AreMade rs (entries_of line t (all_granted calls)))
        (sym (are ∙ append-nil (plain calls)))
        (subst (λ (cs : List RawCall). AreMade (plain calls) (entries_of line t (all_granted cs))) (plain_calls calls)
        (each_made (plain calls)))

    -- the same, whatever would have been made where one is denied
    pub all_granted_made : (calls : List RawCall) → plain (calls_of requests) ≡ plain calls ++ []
        → AreMade requests (entries_of line t (all_granted calls))
    all_granted_made calls are =
        subst (λ (cs : List RawCall). AreMade requests (entries_of line t (all_granted cs)))
        (sym (plain_calls (calls_of requests)) ∙ ap calls_of (are ∙ append-nil (plain calls)) ∙ plain_calls calls)
        (each_made requests)

    -- where the next request is denied, the raw calls are the requests up to it, and what is made then
    pub made_to_denial : (calls : List RawCall) (last : Request) (more : List Request) (denied : Denied)
        → AreLeft calls (last ∷ more)
        → AreMade requests (entries_of line t (all_granted calls ++ (last.call, Some denied) ∷ all_granted last.if_denied))
    made_to_denial calls last more denied are =
        subst (λ (rs : List Request).
        AreMade rs (entries_of line t (all_granted calls ++ (last.call, Some denied) ∷ all_granted last.if_denied)))
        (sym are)
        (subst (λ (cs : List RawCall).
        AreMade (plain calls ++ last ∷ more)
        (entries_of line t (all_granted cs ++ (last.call, Some denied) ∷ all_granted last.if_denied)))
        (plain_calls calls) (made_up_to (plain calls) last more denied))

    -- the raw calls of a way that ends with this errno, and after which nothing is left of the call
    pub made_to_end : (errno : Errno) (calls : List RawCall) (steps : List Step) (refusal : Option Errno) (left : List Request)
        → refusal ≡ Some errno → AreLeft calls (unless_refused refusal left) → EndWith errno calls steps
        → AreMade requests (entries_of line t steps)
    made_to_end errno calls steps refusal left is are end = elim end [
      | inl all ↦
          subst (λ (ss : List Step). AreMade requests (entries_of line t ss)) (sym all.0)
          (all_made calls (left_none calls refusal errno left is all.1 are))
      | inr part ↦
          let last = request part.1 in
          subst (λ (ss : List Step). AreMade requests (entries_of line t ss)) (sym part.4)
          (made_to_denial part.0 last (unless_refused refusal left) part.2
          (are
          ∙ ap (λ (cs : List RawCall). plain cs ++ unless_refused refusal left) part.3
          ∙ ap (λ (front : List Request). front ++ unless_refused refusal left) (map-append request part.0 (part.1 ∷ []))
          ∙ append_assoc (plain part.0) (last ∷ []) (unless_refused refusal left)))
    ]
