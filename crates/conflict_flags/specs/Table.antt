-- The copies of one file by site, its history, and what each event does.
use Rattle.std.specs.Prelude.{◌≡◌, ℕ, zero, suc, ◌+◌, ◌-◌, Bool, true, cond, ◌&&◌, nat_lt, nat_le, List, [], ◌∷◌, Option, Some, None, replicate, Result, Ok, Err}
use Rattle.std.specs.Result.{result_unwrap_or}
use Rattle.locus_ids.specs.Sizes.{sites_max}
use Rattle.locus_ids.specs.declared.ids.FileId.{FileId}
use Rattle.locus_ids.specs.declared.ids.Stamp.{Stamp}
use Rattle.locus_ids.specs.declared.memory.NoMemory.{NoMemory}
use Rattle.version_vector.specs.Counters.{part, raised}
use Rattle.commit_graph.specs.declared.history.Version.{Version}
use Rattle.conflict_flags.specs.declared.held.Held.{Held}
use Rattle.conflict_flags.specs.declared.events.Event.{Event}
use Rattle.conflict_flags.specs.declared.events.Event.TheVariants.{Commit, Adopt, Resolve}
use Rattle.conflict_flags.specs.declared.table.TableFault.{TableFault}
use Rattle.conflict_flags.specs.declared.table.TableFault.TheVariants as faults
use Rattle.conflict_flags.specs.Written.{zeros, joined_all}
use Rattle.conflict_flags.specs.Copies.{is_below, is_maximal, tops, maxima, stamps_of}

pub record Table : Type 0 where
  pub history : List Version  -- the newest first
  pub copies : List (Option Held)  -- site 1 first

-- the one file of a table
abbrev pub the_file : FileId
the_file = record { group = 0; ino = 2 }

abbrev pub copy_at : List (Option Held) → ℕ → Option Held
copy_at [] place = None
copy_at (c ∷ cs) zero = c
copy_at (c ∷ cs) (suc place) = copy_at cs place

-- the copy of a site
abbrev pub copy_of : Table → ℕ → Option Held
copy_of t site = copy_at t.copies (site - 1)

abbrev pub put : List (Option Held) → ℕ → Held → List (Option Held)
put [] zero c = Some c ∷ []
put [] (suc place) c = None ∷ put [] place c
put (d ∷ ds) zero c = Some c ∷ ds
put (d ∷ ds) (suc place) c = d ∷ put ds place c

-- the copies that there are
abbrev pub present : List (Option Held) → List Held
present [] = []
present (None ∷ cs) = present cs
present (Some c ∷ cs) = c ∷ present cs

-- a new version of the site on these parents, whose vectors join to v
abbrev pub grown : Table → ℕ → List Stamp → List ℕ → Table
grown t site parents v =
    let stamp : Stamp = record { site = site; n = part v (site - 1) + 1 } in
    record {
      history = record { file = the_file; site = site; stamp = stamp; parents = parents; content = [] } ∷ t.history;
      copies = put t.copies (site - 1) (record { site = site; stamp = stamp; vector = raised v (site - 1) });
    }

abbrev pub is_site : ℕ → Bool
is_site site = nat_le 1 site && nat_le site sites_max

-- the same while the counter isn't spent; what is no site makes no version
abbrev pub counted : Table → ℕ → List Stamp → List ℕ → Result Table TableFault
counted t site parents v = cond (is_site site) (cond (nat_lt (part v (site - 1)) 4294967295) (Ok (grown t site parents v)) (Err faults.Spent)) (Err faults.NoCopy)

-- the site has no copy: only the first version of all
abbrev pub first : Table → ℕ → List Version → Result Table TableFault
first t site [] = counted t site [] zeros
first t site (v ∷ older) = Err faults.NoCopy

-- a version on top of the site's copy
abbrev pub committed : Table → ℕ → Option Held → Result Table TableFault
committed t site None = first t site t.history
committed t site (Some c) = counted t site (c.stamp ∷ []) c.vector

-- the site takes a copy where it has none or one that is below it
abbrev pub takes : Held → Option Held → Bool
takes c None = true
takes c (Some d) = is_below d.vector c.vector

abbrev pub taken : Table → ℕ → Held → Table
taken t site c = record { history = t.history; copies = put t.copies (site - 1) (record { site = site; stamp = c.stamp; vector = c.vector }) }

abbrev pub adopted : Table → ℕ → Option Held → Result Table TableFault
adopted t site None = Err faults.NoCopy
adopted t site (Some c) = Ok (cond (takes c (copy_of t site)) (taken t site c) t)

-- a version whose parents are the maximal copies, where the site's own copy is one of them
abbrev pub resolved : Table → ℕ → Option Held → Result Table TableFault
resolved t site None = Err faults.NoCopy
resolved t site (Some c) = cond (is_maximal (present t.copies) c)
    (counted t site (stamps_of (maxima (present t.copies))) (joined_all (λ d. d.vector) (tops (present t.copies))))
    (Err faults.NoCopy)

-- what an event comes to where memory doesn't run out
abbrev pub stepped : Table → Event → Result Table TableFault
stepped t (Commit site) = committed t site (copy_of t site)
stepped t (Adopt site from) = adopted t site (copy_of t from)
stepped t (Resolve site) = resolved t site (copy_of t site)

-- an event that is refused changes nothing
abbrev pub happens : Table → Event → Table
happens t e = result_unwrap_or (stepped t e) t

-- A call comes to this step: it fails for memory only where it would succeed, and a call that fails changes nothing.
abbrev pub Does : {X : Type 0} → Table → Result Table TableFault → Result X TableFault → Table → Type 0
Does old (Ok t) (Ok x) new = new ≡ t
Does old (Err f) (Ok x) new = ⊥
Does old (Ok t) (Err faults.NoMemory) new = new ≡ old
Does old (Ok t) (Err faults.NoCopy) new = ⊥
Does old (Ok t) (Err faults.Spent) new = ⊥
Does old (Err f) (Err g) new = (g ≡ f) × (new ≡ old)

-- a table of no versions
abbrev pub start : Table
start = record { history = []; copies = replicate sites_max None }

-- a whole list of events
abbrev pub run : List Event → Table → Table
run [] t = t
run (e ∷ es) t = run es (happens t e)

-- the stamp is that of the newest version
abbrev pub IsNewest : Table → Stamp → Type 0
IsNewest t stamp = newest t.history ≡ Some stamp
  where
    newest : List Version → Option Stamp
    newest [] = None
    newest (v ∷ older) = Some v.stamp

-- a refusal is no failure, but for memory
abbrev pub settled : {X : Type 0} → Result X TableFault → Result (Unit {0}) NoMemory
settled (Ok x) = Ok tt
settled (Err faults.NoMemory) = Err (record {})
settled (Err faults.NoCopy) = Ok tt
settled (Err faults.Spent) = Ok tt
