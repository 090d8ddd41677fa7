-- No directory wants a rescue after calm rounds: as the lines of a schedule and the records of its run tell it.
use Rattle.std.proofs.Common.{Bool, List, [], ap, arith, cond, false, inl, inr, length, map, not, refl, sym, true, ℕ, ◌&&◌, ◌<◌, ◌||◌, ◌∙◌, ◌∷◌, ◌≡◌, ◌⊎◌}
use Rattle.std.specs.List.{list_all, list_any}
use Rattle.std.specs.Str.{bytes_eq}
use Rattle.rest_laws.proofs.MendStepKeptVectors.{vectors_agree}
use Rattle.rest_laws.proofs.MendStepWanted.{joined_none}
use Rattle.calm_laws.specs.Carrying.{frame_of}
use Rattle.calm_laws.specs.Rounds.{CalmLeft, after}
use Rattle.row_laws.specs.OrderlyRows.Agreeing.{IsWithin}
use Rattle.commit_graph.specs.Versions.{content_of}
use Rattle.calm_laws.proofs.Convergence.DirectoriesUndisturbed.{undisturbed}
use Rattle.calm_laws.proofs.Convergence.TraceKnown.{HasOne, HasTable, has_one, has_table, known_row, lost_there}
use Rattle.calm_laws.proofs.Convergence.TraceMoments.{lacked, quiet}
use Rattle.calm_laws.proofs.Convergence.TracePlayed.{IsPlayed, played}
use Rattle.calm_laws.specs.Convergence.Directories as worlds
use Rattle.calm_laws.specs.Convergence.Rounds as rounds
use Rattle.dir_format.specs.Contents.{entries_from, entries_of, is_dir}
use Rattle.dir_format.specs.Entries.{is_live}
use Rattle.dir_format.specs.Grammar.{dir_bytes}
use Rattle.dir_format.specs.declared.entry.Entry.{Entry}
use Rattle.dir_reconcile.specs.Rescues.{rescue_wanted, wants_rescue}
use Rattle.lawful_trace.specs.Places.{through_line}
use Rattle.locus_ids.specs.declared.config.Config.{Config}
use Rattle.locus_ids.specs.declared.ids.FileId.{FileId}
use Rattle.locus_ids.specs.declared.ids.Stamp.{Stamp}
use Rattle.promises.specs.Convergence.{AreDirectRounds, MayWant, NoRescueIsWanted, UndisturbedWantNoRescue, WantsRescue}
use Rattle.row_laws.specs.Shown.{trace_of}
use Rattle.role_steps.proofs.of_plain_facts.Tests.{true_false}
use Rattle.role_steps.specs.Mends as role
use Rattle.role_steps.specs.declared.rounds.InEpoch.{InEpoch}
use Rattle.role_steps.specs.declared.synchronizing.SyncTable.{SyncTable}
use Rattle.schedule_lines.specs.Cluster.{config_of}
use Rattle.schedule_lines.specs.Schedule.{AreInOrder}
use Rattle.schedule_lines.specs.declared.line.ScheduleLine.{ScheduleLine}
use Rattle.the_run.specs.Runs.{run}
use Rattle.the_run.specs.Worlds.{World}
use Rattle.tree_laws.specs.Printed.{entries}
use Rattle.tree_model.specs.Folds.{Trace}
use Rattle.tree_model.specs.Histories.{history}
use Rattle.tree_model.specs.Mending.{joined_all, kept_vectors}
use Rattle.tree_model.specs.Tree.{tree_of}

-- ---- entries ----

-- where all entries are live, none is removed
all_live : (p : ℕ → Bool) (ds : List Entry) → list_all is_live ds ≡ true → list_any (λ (d : Entry). not (is_live d) && p d.ino) ds ≡ false
all_live p [] h = refl
all_live p (d ∷ ds) h = over (is_live d) refl h (all_live p ds)
  where
    over : (b : Bool) → is_live d ≡ b → (b && list_all is_live ds) ≡ true → (list_all is_live ds ≡ true → list_any (λ (d : Entry). not (is_live d) && p d.ino) ds ≡ false) → ((not (is_live d) && p d.ino) || list_any (λ (d : Entry). not (is_live d) && p d.ino) ds) ≡ false
    over true e k later = ap (λ (b : Bool). (not b && p d.ino) || list_any (λ (d : Entry). not (is_live d) && p d.ino) ds) e ∙ later k
    over false e k later = absurd (true_false (sym k))

-- so what wants a rescue by its entries wants one at its synchronization site
wanted_there : (t : SyncTable) (content : List ℕ) → rescue_wanted (entries_of content) (role.kept_vectors t) ≡ true → role.wants_rescue_in t content ≡ true
wanted_there t content h = by_live (list_all is_live ds) refl
  where
    ds : List Entry
    ds = entries_from (length content) content

    none : (b : Bool) → list_all is_live ds ≡ true → rescue_wanted (cond b ds []) (role.kept_vectors t) ≡ false
    none true live = all_live (wants_rescue ds (role.kept_vectors t)) ds live
    none false live = refl

    by_live : (b : Bool) → list_all is_live ds ≡ b → ◌≡◌ {A = Bool} (elim b [ true ↦ false | false ↦ rescue_wanted (entries_of content) (role.kept_vectors t) ]) true
    by_live true live = absurd (true_false (sym h ∙ none (bytes_eq (dir_bytes ds) content && is_dir ds) live))
    by_live false live = h

-- ---- at the end of a round ----

module _ (lines : List ScheduleLine) (n : ℕ) (e : InEpoch) (p : IsPlayed lines n e) (css : ℕ) (f : FileId) (stamp : Stamp) (h : WantsRescue (config_of lines) (through_line (trace_of (run lines)) n) e.id e.members css f stamp) (t : HasTable lines n e p f.group css) (q : HasOne lines n e p f css t stamp) where
  abbrev c : Config
  c = config_of lines

  abbrev end : World
  end = after c lines n p.deliveries

  directory : role.is_dir q.row.kind ≡ true
  directory = ap role.is_dir (q.is_row.kind_is ∙ h.directory)

  wants : worlds.WantsRescue c end t.table f q.version
  wants = wanted_there t.table (content_of (history c (entries end.trace)) f q.version.stamp)
      (ap (λ (s : Stamp). rescue_wanted (entries_of (content_of (history c (entries end.trace)) f s)) (role.kept_vectors t.table)) q.stamp_is
      ∙ (ap (rescue_wanted (entries_of (content_of (history c (entries end.trace)) f stamp))) (vectors_agree c end.trace (frame_of c e css) t.table t.fact t.files)
      ∙ (ap (λ (g : ℕ). rescue_wanted (entries_of (content_of (history c (entries end.trace)) f stamp)) (kept_vectors (history c (entries end.trace)) (tree_of c e.id g (entries end.trace)))) t.is_group
      ∙ (ap (λ (tr : Trace). rescue_wanted (entries_of (content_of (history c tr) f stamp)) (kept_vectors (history c tr) (tree_of c e.id f.group tr))) (sym t.told)
      ∙ (ap (λ (ds : List Entry). rescue_wanted ds (kept_vectors (history c upto) (tree_of c e.id f.group upto))) (sym (joined_none (entries_of (content_of (history c upto) f stamp))))
      ∙ (ap (λ (ss : List Stamp). rescue_wanted (joined_all (map (λ (s : Stamp). entries_of (content_of (history c upto) f s)) ss)) (kept_vectors (history c upto) (tree_of c e.id f.group upto))) (sym h.kept) ∙ h.wants))))))
    where
      upto : Trace
      upto = through_line (trace_of (run lines)) n

  told : worlds.WasRefused t.view f ⊎ rounds.LackedRoom c lines n p.deliveries css f q.version → MayWant c (trace_of (run lines)) n e.id css f stamp
  told (inl lost) = inl (lost_there lines n e p f css t lost)
  told (inr small) = inr (lacked lines n e p css t.member f stamp q.version q.size_is small)

-- ---- the promises ----

together : (lines : List ScheduleLine) (n m : ℕ) (e : InEpoch) (first : IsPlayed lines n e) (second : IsPlayed lines m e) → AreDirectRounds lines (trace_of (run lines)) n m e.id e.members → rounds.AreDirectRounds (config_of lines) lines n m e first.deliveries second.deliveries
together lines n m e first second h = record { rounds = record { first = first.calm; second = second.calm; order = h.order }; directly = h.directly }

pub undisturbed_by_trace : (lines : List ScheduleLine) → AreInOrder lines → IsWithin lines → CalmLeft (config_of lines) → worlds.UndisturbedWantNoRescue (config_of lines) → UndisturbedWantNoRescue lines (trace_of (run lines))
undisturbed_by_trace lines order within calm law n m id members css f stamp direct undisturbed h =
    told lines m e second css f stamp h t q (law lines n m e first.deliveries second.deliveries f q.row q.version (together lines n m e first second direct)
    (quiet lines n e first f q.numbered (λ now k. undisturbed n now (omega arith) (let b : n < m = direct.order in omega (arith, b)) k)) (quiet lines m e second f q.numbered (λ now k. undisturbed m now (let b : n < m = direct.order in omega (arith, b)) (omega arith) k)) (known_row lines m e second f css t q.row q.is_row.found) (directory lines m e second css f stamp h t q) q.only (wants lines m e second css f stamp h t q))
  where
    e : InEpoch
    e = record { id = id; members = members }

    first : IsPlayed lines n e
    first = played lines order within n id members direct.first

    second : IsPlayed lines m e
    second = played lines order within m id members direct.second

    t : HasTable lines m e second f.group css
    t = has_table lines calm m e second f.group css h.synced

    q : HasOne lines m e second f css t stamp
    q = has_one lines m e second f css t stamp h.kept

pub rescue_by_trace : (lines : List ScheduleLine) → AreInOrder lines → IsWithin lines → CalmLeft (config_of lines) → worlds.NoRescueIsWanted (config_of lines) → NoRescueIsWanted lines (trace_of (run lines))
rescue_by_trace lines order within calm law o n m id members css f stamp before rest h =
    told lines m e third css f stamp h t q (law lines o n m e first.deliveries second.deliveries third.deliveries f q.row q.version (record { first = together lines o n e first second before; last = together lines n m e second third rest })
    (known_row lines m e third f css t q.row q.is_row.found) (directory lines m e third css f stamp h t q) q.only (wants lines m e third css f stamp h t q))
  where
    e : InEpoch
    e = record { id = id; members = members }

    first : IsPlayed lines o e
    first = played lines order within o id members before.first

    second : IsPlayed lines n e
    second = played lines order within n id members before.second

    third : IsPlayed lines m e
    third = played lines order within m id members rest.second

    t : HasTable lines m e third f.group css
    t = has_table lines calm m e third f.group css h.synced

    q : HasOne lines m e third f css t stamp
    q = has_one lines m e third f css t stamp h.kept
