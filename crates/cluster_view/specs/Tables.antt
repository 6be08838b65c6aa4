-- Logs and tables that can't differ, and do (the words are this project's choice).
use Rattle.std.specs.Prelude.{◌≡◌, ◌≤◌, ◌&&◌, ◌==◌, Bool, false, List, All, not}
use Rattle.cluster_view.specs.declared.hello.Hello.{Hello}
use Rattle.cluster_view.specs.declared.hello.Mark.{Mark}
use Rattle.cluster_view.specs.declared.tables.Trace.{Trace}
use Rattle.cluster_view.specs.declared.tables.Trace.TheVariants.{Log, Applied}
use Rattle.cluster_view.specs.declared.view.View.{View}
use Rattle.cluster_view.specs.Hellos.{Tells, tells}
use Rattle.cluster_view.specs.Votes.{votes_of}

-- what the member tells: of its log, or of its table
abbrev pub mark_of : Trace → Hello → Mark
mark_of Log hello = hello.state.log
mark_of Applied hello = hello.state.applied

-- as long, with another digest
abbrev pub differs_from : Mark → Mark → Bool
differs_from mark other = (mark.length == other.length) && not (mark.digest == other.digest)

-- as long, with the same digest
abbrev pub is_same : Mark → Mark → Bool
is_same mark other = (mark.length == other.length) && (mark.digest == other.digest)

-- the member tells a state of the view, and as much with another digest
abbrev pub has_other : Trace → View → Mark → Hello → Bool
has_other trace view mark hello = tells view hello && differs_from (mark_of trace hello) mark

-- the member tells a state of the view, and as much with the same digest
abbrev pub has_same : Trace → View → Mark → Hello → Bool
has_same trace view mark hello = tells view hello && is_same (mark_of trace hello) mark

-- no member that tells a state of the view has as much with another digest
abbrev pub AgreeWith : Trace → View → Mark → List Hello → Type 0
AgreeWith trace view mark hellos = All (λ hello. has_other trace view mark hello ≡ false) hellos

-- no two members that tell a state of the view have as much with different digests
abbrev pub AreAlike : Trace → View → List Hello → Type 0
AreAlike trace view hellos = All (λ hello. Tells view hello → AgreeWith trace view (mark_of trace hello) hellos) hellos

-- others have as much with another digest, and those with the same one have no more votes
pub record IsOutvoted (trace : Trace) (view : View) (mark : Mark) (hellos : List Hello) : Type 0 where
  pub differ : ¬ AgreeWith trace view mark hellos
  pub no_more : votes_of (has_same trace view mark) hellos ≤ votes_of (has_other trace view mark) hellos
