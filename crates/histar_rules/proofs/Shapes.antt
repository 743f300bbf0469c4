-- Changes of threads leave all links as they are.
use Rattle.std.proofs.Common.{◌≡◌, ℕ, true, None, Some, Option, refl}
use Rattle.std.specs.FinSet as set
use Rattle.histar_level.specs.Levels.{Levels}
use Rattle.histar_object.specs.declared.objects.Kind.{Kind}
use Rattle.histar_object.specs.declared.objects.Kind.TheVariants.{Segment, Container, Thread, Gate}
use Rattle.histar_object.specs.declared.objects.Object.{Object}
use Rattle.histar_object.specs.Objects.{kind_is_thread, is_present, is_thread, kind_links, links_in}
use Rattle.histar_rules.specs.Rights.{kind_with_three_at, kind_with_clearance}

-- a thread is there
pub thread_there : (o : Option (Object Levels)) → is_thread o ≡ true → is_present o ≡ true
thread_there None thread = thread
thread_there (Some o) thread = refl

-- a thread links nothing
kind_thread_links : (k : Kind Levels) → kind_is_thread k ≡ true → set.empty ≡ kind_links k
kind_thread_links (Segment bytes) thread = refl
kind_thread_links (Container links) thread = cc
kind_thread_links (Thread clearance) thread = refl
kind_thread_links (Gate clearance entry) thread = refl

-- nor does an object that is a thread
pub thread_links : (o : Option (Object Levels)) → is_thread o ≡ true → set.empty ≡ links_in o
thread_links None thread = refl
thread_links (Some o) thread = kind_thread_links o.kind thread

-- another clearance changes no links
pub clearing_links : (new : Levels) (k : Kind Levels) → kind_links (kind_with_clearance new k) ≡ kind_links k
clearing_links new (Segment bytes) = refl
clearing_links new (Container links) = refl
clearing_links new (Thread clearance) = refl
clearing_links new (Gate clearance entry) = refl

-- nor does level 3 at a category
pub cleared_links : (c : ℕ) (k : Kind Levels) → kind_links (kind_with_three_at c k) ≡ kind_links k
cleared_links c (Segment bytes) = refl
cleared_links c (Container links) = refl
cleared_links c (Thread clearance) = refl
cleared_links c (Gate clearance entry) = refl
