-- While an instance isn't begun, what is kept of its file is what was kept at its grant.
use Rattle.std.proofs.Common.{◌≡◌, ℕ, ◌==◌, Bool, true, false, List, ◌∷◌, Option, Some, None, refl, sym, ap, ◌∙◌, subst, ◌⊎◌, inl, inr, arith}
use Rattle.std.proofs.lemmas.Bool.Decides.{nat_tests}
use Rattle.tree_laws.proofs.of_plain_facts.Numbers.{equal}
use Rattle.locus_ids.specs.declared.config.Config.{Config}
use Rattle.locus_ids.specs.declared.ids.CallId.{CallId}
use Rattle.locus_ids.specs.declared.ids.EpochId.{EpochId}
use Rattle.locus_ids.specs.declared.ids.FileId.{FileId}
use Rattle.locus_ids.specs.declared.ids.Mode.{Mode}
use Rattle.locus_ids.specs.declared.ids.Serial.{Serial}
use Rattle.locus_ids.specs.declared.ids.Stamp.{Stamp}
use Rattle.commit_graph.specs.Grants.{is_read}
use Rattle.commit_graph.specs.Versions.{same_file}
use Rattle.trace_book.specs.declared.record.Record.{Record}
use Rattle.trace_book.specs.declared.record.Record.TheVariants as says
use Rattle.site_laws.specs.of_role_steps.Views.{Told, Shown}
use Rattle.tree_laws.specs.of_the_run.Worlds.{Line}
use Rattle.tree_model.specs.declared.instance.Instance.{Instance}
use Rattle.tree_model.specs.Folds.{Trace}
use Rattle.tree_model.specs.State.{instance_in, is_named, stamps_of}
use Rattle.tree_model.specs.Tree.{kept_in, published, tree_of}
use Rattle.tree_laws.specs.of_lawful_trace.Lawful.{MayCome}
use Rattle.tree_laws.specs.Following.{IsFollowed, MayTell, RowsAreLawful}
use Rattle.tree_laws.specs.Past.{WasBegun, WasGranted, WasShut}
use Rattle.tree_laws.specs.Printed.{entries, onto_entries}
use Rattle.tree_laws.proofs.Rows.{followed_rows}
use Rattle.tree_laws.specs.Orders.Alone.{MayStandBy}
use Rattle.tree_laws.specs.Orders.Joining.{PacksAreOfSites}
use Rattle.tree_laws.specs.Orders.Keeping.{PassesBy}
use Rattle.tree_laws.proofs.Orders.Alone.{rows_apart}
use Rattle.tree_laws.proofs.Orders.Keeping.{EndsIn, IsNew, PublishesNothing, changing_publishes_nothing, ends_in, file_eq, kept_by, passes_new, passes_none, published_same, stand_or_same}
use Rattle.tree_laws.proofs.Orders.Started.{open_started}
use Rattle.tree_laws.proofs.Orders.Lists.{all_found}
use Rattle.store_laws.proofs.Holdings.Begun.{Untouched, begun_or_open, open_in_group}
use Rattle.store_laws.proofs.Holdings.Made.{CommitsAreNew}
use Rattle.store_laws.proofs.Holdings.Seats.{Seat, rows_seated, same_version_is}

-- beside an open instance that reads the file only readers are released, which publish nothing
pub reading_publishes_nothing : (c : Config) (before : Trace) → RowsAreLawful c before → (e : EpochId) (f : FileId) (i : Serial) (x : Instance) → instance_in (tree_of c e f.group before) i ≡ Some x → x.grant.file ≡ f → is_read x.grant.mode ≡ true → PublishesNothing c before e f i
reading_publishes_nothing c before rows e f i x found file_is reads d j g stamp gives passes same = at (ends_in c before e f d j g stamp gives same) (g.ino == f.ino) refl
  where
    own : (y : FileId) → same_file y y ≡ true
    own y = grind (arith, nat_tests)

    -- who is released reads too
    also : (w : EndsIn c before e f d j g stamp) → g ≡ f → (MayStandBy x w.ended) ⊎ ((MayStandBy w.ended x) ⊎ (x ≡ w.ended)) → is_read w.ended.grant.mode ≡ true
    also w is (inl by) = (by (subst (λ (y : FileId). same_file x.grant.file y ≡ true) (file_is ∙ (sym is ∙ sym w.file_is)) (own x.grant.file))).1
    also w is (inr (inl by)) = (by (subst (λ (y : FileId). same_file y x.grant.file ≡ true) (file_is ∙ (sym is ∙ sym w.file_is)) (own x.grant.file))).0
    also w is (inr (inr one)) = subst (λ (y : Instance). is_read y.grant.mode ≡ true) one reads

    nothing : (w : EndsIn c before e f d j g stamp) → g ≡ f → stamp ≡ None
    nothing w is = same_version_is stamp w.ended.work.committed w.made
        ∙ (all_found (Seat e f.group before (tree_of c e f.group before)) (is_named j) (tree_of c e f.group before).instances w.ended (rows_seated c before rows e f.group) w.found).reads
        (also w is (stand_or_same (tree_of c e f.group before).instances i j x w.ended (rows_apart c before rows e f.group).alone found w.found))

    at : EndsIn c before e f d j g stamp → (b : Bool) → (g.ino == f.ino) ≡ b → stamps_of (published g stamp (tree_of c e f.group before).known) f.ino ≡ stamps_of (tree_of c e f.group before).known f.ino
    at w false k = published_same g stamp f.ino (tree_of c e f.group before).known k
    at w true k = ap (λ (o : Option Stamp). stamps_of (published g o (tree_of c e f.group before).known) f.ino) (nothing w (file_eq g f w.group_is (equal g.ino f.ino k)))

-- so while any instance of the file is open what is kept of it stays, but for its own release
pub open_keeps : (c : Config) (before : Trace) → PacksAreOfSites c → RowsAreLawful c before → (e : EpochId) (f : FileId) (i : Serial) (x : Instance) → instance_in (tree_of c e f.group before) i ≡ Some x → x.grant.file ≡ f →
    (line : ℕ) (r : Record) → MayCome c before r → PassesBy c before e f i r → kept_in c (record { line = line; what = r } ∷ before) e f ≡ kept_in c before e f
open_keeps c before few rows e f i x found file_is line r may passes =
    kept_by c before few rows e f (open_started c before rows e f.group i x found) line r may (passes_new c before e f i r passes) (passes_none c before e f i (calm (is_read x.grant.mode) refl) r may passes)
  where
    calm : (b : Bool) → is_read x.grant.mode ≡ b → PublishesNothing c before e f i
    calm true k = reading_publishes_nothing c before rows e f i x found file_is k
    calm false k = changing_publishes_nothing c before rows e f i x (record { found = found; file_is = file_is; writes = k })

untouched_keeps : (c : Config) (older : List Line) (n : ℕ) (r : Record) → PacksAreOfSites c → IsFollowed c older → MayTell c older (Shown r) → IsNew c (entries older) r → (e : EpochId) (i : Serial) (m : Mode) (f : FileId) (stamp : Option Stamp) (ss : ℕ) →
    Untouched c older e i m f stamp ss → kept_in c (record { line = n; what = r } ∷ entries older) e f ≡ kept_in c (entries older) e f
untouched_keeps c older n r few followed may new e i m f stamp ss u = open_keeps c (entries older) few (followed_rows c older followed) e f i u.at
    (subst (λ (y : FileId). instance_in (tree_of c e y.group (entries older)) i ≡ Some u.at) u.file_is (open_in_group c older followed e i u.at u.open_at.found)) u.file_is n r may.row (passes r may new)
  where
    passes : (r : Record) → MayTell c older (Shown r) → IsNew c (entries older) r → PassesBy c (entries older) e f i r
    passes (says.Commit g z made parents content) may new = new
    passes (says.Release at inst g last) may new = λ p q. u.unshut may.in_time.at.grant.ss (subst (λ (y : EpochId). WasShut older may.in_time.at.grant.ss y i) p (subst (λ (y : Serial). WasShut older may.in_time.at.grant.ss at y) q may.in_time.shut))
    passes _ may new = tt

pub kept_stays : (c : Config) (older : List Line) (n : ℕ) (x : Told) → PacksAreOfSites c → IsFollowed c older → MayTell c older x → CommitsAreNew c (onto_entries n x (entries older)) →
    (e : EpochId) (d : CallId) (request : ℕ) (i : Serial) (m : Mode) (f : FileId) (stamp : Option Stamp) (ss : ℕ) (parents : List Stamp) → WasGranted older e d request i m f stamp ss → parents ≡ kept_in c (entries older) e f →
    ((site : ℕ) × WasBegun (record { number = n; told = x } ∷ older) site e i f) ⊎ (parents ≡ kept_in c (entries (record { number = n; told = x } ∷ older)) e f)
kept_stays c older n (Shown r) few followed may new e d request i m f stamp ss parents granted is = over (begun_or_open c older followed new.1 e d request i m f stamp ss granted)
  where
    over : WasBegun older ss e i f ⊎ Untouched c older e i m f stamp ss → ((site : ℕ) × WasBegun (record { number = n; told = Shown r } ∷ older) site e i f) ⊎ (parents ≡ kept_in c (record { line = n; what = r } ∷ entries older) e f)
    over (inl k) = inl (ss, inr k)
    over (inr u) = inr (is ∙ sym (untouched_keeps c older n r few followed may new.0 e i m f stamp ss u))
kept_stays c older n _ few followed may new e d request i m f stamp ss parents granted is = inr is
