-- The number that a call inserts was inserted by nobody before.
use Rattle.std.proofs.Common.{◌≡◌, ℕ, cond, List, [], ◌∷◌, Option, Some, None, refl, sym, ◌∙◌, ap, subst, inl, inr}
use Rattle.std.specs.Option.{option_map, option_or}
use Rattle.role_steps.proofs.of_plain_facts.Options.{some_same}
use Rattle.locus_ids.specs.declared.config.Config.{Config}
use Rattle.locus_ids.specs.declared.ids.CallId.{CallId}
use Rattle.locus_ids.specs.declared.ids.EpochId.{EpochId}
use Rattle.locus_ids.specs.declared.ids.FileId.{FileId}
use Rattle.locus_ids.specs.declared.ids.Kind.{Kind}
use Rattle.locus_ids.specs.declared.ids.Serial.{Serial}
use Rattle.commit_graph.specs.Versions.{same_file}
use Rattle.trace_book.specs.declared.operation.Op.TheVariants as op
use Rattle.trace_book.specs.declared.operation.Outcome.{Outcome}
use Rattle.trace_book.specs.declared.record.Record.{Record}
use Rattle.trace_book.specs.declared.record.Record.TheVariants as says
use Rattle.call_rules.specs.declared.want.Want.TheVariants as want
use Rattle.role_steps.specs.Views.{Told, Shown}
use Rattle.the_run.specs.Worlds.{Line}
use Rattle.tree_model.specs.declared.instance.Instance.{Instance}
use Rattle.tree_model.specs.Calls.{call_named, granted_to}
use Rattle.tree_model.specs.Files.{committing, first_call}
use Rattle.tree_model.specs.Folds.{Trace}
use Rattle.tree_model.specs.State.{is_named}
use Rattle.tree_model.specs.Tree.{tree_of}
use Rattle.lawful_trace.specs.Tables.{begun}
use Rattle.lawful_trace.specs.TreeRows.{IsCallIn, granted_group}
use Rattle.tree_laws.specs.Calls.{Asks, script}
use Rattle.tree_laws.specs.Following.{IsFollowed, MayTell}
use Rattle.tree_laws.specs.Instances.{instance_now}
use Rattle.tree_laws.specs.Past.{Printed, WasDone}
use Rattle.tree_laws.specs.Printed.{entries, onto_entries}
use Rattle.tree_laws.proofs.Alone.{asking}
use Rattle.tree_laws.proofs.Answered.{asker_unnamed}
use Rattle.tree_laws.proofs.Owing.{InGroup, found_every, in_group}
use Rattle.tree_laws.proofs.Owners.{granted_same}
use Rattle.tree_laws.specs.Orders.Joining.{PacksAreOfSites}
use Rattle.store_laws.proofs.AnswerAnswering.{acter_in}
use Rattle.store_laws.proofs.AnswerDone.{done_named}
use Rattle.store_laws.proofs.OneTree.RemovePlaced.{DoneSo, Taken, done_placed, taken_so}
use Rattle.rest_laws.specs.Fits.EntryEntries.{InsertRecord, WasInserted}
use Rattle.rest_laws.proofs.Fits.EntryActing.{inserted_first}
use Rattle.rest_laws.proofs.Fits.EntryNamed.{trace_named}
use Rattle.rest_laws.proofs.Fits.CalmAskingAsking.{UseOp, own}
use Rattle.rest_laws.proofs.Fits.CalmAskingInserting.{NotInsert, script_inserts}

abbrev With : ℕ → Told → List Line → List Line
With n x older = record { number = n; told = x } ∷ older

-- the call that made the file has inserted it
record Inserter (c : Config) (t : List Line) (group ino : ℕ) : Type 0 where
  call : CallId
  epoch : EpochId
  inst : Serial
  number : ℕ
  name : List ℕ
  kind : Kind
  result : Outcome
  done : WasDone t epoch inst number (op.Insert name ino kind) result
  granted : granted_to (entries t) epoch inst ≡ Some call
  first : first_call c (entries t) (record { group = group; ino = ino }) ≡ Some call

first_more : (c : Config) (n : ℕ) (r : Record) (before : Trace) (f : FileId) (d : CallId) → first_call c before f ≡ Some d → first_call c (record { line = n; what = r } ∷ before) f ≡ Some d
first_more c n (says.Commit g z stamp parents content) before f d k = ap (λ (o : Option CallId). option_or o (cond (same_file g f) (option_map (λ (x : Instance). x.grant.call) (committing c before f z)) None)) k
first_more c n r before f d k = k

inserter_more : (c : Config) (n : ℕ) (x : Told) (older : List Line) (g ino : ℕ) → MayTell c older x → Inserter c older g ino → Inserter c (With n x older) g ino
inserter_more c n x older g ino may k = record { call = k.call; epoch = k.epoch; inst = k.inst; number = k.number; name = k.name; kind = k.kind; result = k.result; done = inr k.done; granted = granted x may; first = first x }
  where
    granted : (y : Told) → MayTell c older y → granted_to (onto_entries n y (entries older)) k.epoch k.inst ≡ Some k.call
    granted (Shown r) m = granted_same c older n r k.epoch k.inst k.call m k.granted
    granted _ m = k.granted

    first : (y : Told) → first_call c (onto_entries n y (entries older)) (record { group = g; ino = ino }) ≡ Some k.call
    first (Shown r) = first_more c n r (entries older) (record { group = g; ino = ino }) k.call k.first
    first _ = k.first

no_use : (name : List ℕ) (ino : ℕ) (kind : Kind) → UseOp (op.Insert name ino kind) → ⊥
no_use name ino kind k = k

inserted_by : (c : Config) (packs : PacksAreOfSites c) (t : List Line) → IsFollowed c t → (g ino : ℕ) → WasInserted c t g ino → Inserter c t g ino
inserted_by c packs [] h g ino was = absurd was
inserted_by c packs (y ∷ older) h g ino (inr was) = inserter_more c y.number y.told older g ino h.0 (inserted_by c packs older h.1 g ino was)
inserted_by c packs (y ∷ older) h g ino (inl now) = over y.told h.0 now
  where
    over : (x : Told) → MayTell c older x → Printed (InsertRecord c g ino) older x → Inserter c (With y.number x older) g ino
    over (Shown (says.Act e i n (op.Insert name number kd) result)) may p = record {
      call = d;
      epoch = e;
      inst = i;
      number = n;
      name = name;
      kind = kd;
      result = result;
      done = inl (record { epoch_is = refl; serial_is = refl; number_is = refl; operation_is = ap (λ (k : ℕ). op.Insert name k kd) p.1; result_is = refl });
      granted = own c older h.1 e d inside i (op.Insert name number kd) asks x may.in_time.open_at.found (no_use name number kd);
      first = subst (λ (k : ℕ). first_call c (entries older) (record { group = k; ino = ino }) ≡ Some d) (group_is ∙ p.0) (subst (λ (k : ℕ). first_call c (entries older) (record { group = x.grant.file.group; ino = k }) ≡ Some d) p.1 first);
    }
      where
        d : CallId
        d = may.in_time.call

        x : Instance
        x = may.in_time.at

        asks : Asks c older d (want.Do i (op.Insert name number kd))
        asks = may.in_time.asks

        inside : IsCallIn (entries older) e d
        inside = acter_in c older e i n (op.Insert name number kd) result may

        first : first_call c (entries older) (record { group = x.grant.file.group; ino = number }) ≡ Some d
        first = inserted_first c older h.1 (trace_named c packs older h.1).calls packs e d inside i name number kd asks x may.in_time.open_at.found

        group_is : x.grant.file.group ≡ granted_group (entries older) e i
        group_is = found_every (InGroup (granted_group (entries older) e i)) (is_named i) (tree_of c e (granted_group (entries older) e i) (entries older)).instances x may.in_time.open_at.found (in_group c e (granted_group (entries older) e i) (entries older))
    over (Shown r) may p = absurd p
    over x may p = absurd p

-- ---- who asks it now ----

-- no entry of this number was inserted in the group
pub not_inserted : (c : Config) (packs : PacksAreOfSites c) (t : List Line) → IsFollowed c t → (e : EpochId) (d : CallId) → IsCallIn (entries t) e d → (i : Serial) (name : List ℕ) (ino : ℕ) (kd : Kind) → Asks c t d (want.Do i (op.Insert name ino kd)) → (x : Instance) → instance_now c t e i ≡ Some x → WasInserted c t x.grant.file.group ino → ⊥
not_inserted c packs t h e d inside i name ino kd asks x found was = again (subst NotInsert (ap (script c (entries t) d None) (sym taken.log_is) ∙ asks.asked)
    ((script_inserts c (entries t) (call_named (entries t) d) (begun (entries t) d) by.inst by.name ino by.kind taken.before (taken.script_is ∙ taken.fits)).once taken.given taken.after))
  where
    by : Inserter c t x.grant.file.group ino
    by = inserted_by c packs t h x.grant.file.group ino was

    same : by.call ≡ d
    same = some_same by.call d (sym by.first ∙ inserted_first c t h (trace_named c packs t h).calls packs e d inside i name ino kd asks x found)

    taken : Taken c t d (DoneSo by.inst (op.Insert by.name ino by.kind))
    taken = taken_so c t d (DoneSo by.inst (op.Insert by.name ino by.kind)) asks.nothing_waits (done_placed c t h (λ older k at j m p z q. done_named c older k at j m p z q) by.epoch d by.inst by.number (op.Insert by.name ino by.kind) by.result
        (by.granted ∙ ap Some same) (asker_unnamed c t d h (asking c t d (want.Do i (op.Insert name ino kd)) asks)) by.done)

    again : NotInsert (want.Do i (op.Insert name ino kd)) → ⊥
    again k = k
