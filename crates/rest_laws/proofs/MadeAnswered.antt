-- A make that waits for its number is answered by its storage site: it is granted the number, or refused since none is left.
use Rattle.std.proofs.Common.{◌≡◌, ℕ, ◌+◌, ◌==◌, Bool, true, false, not, ◌&&◌, cond, List, [], ◌∷◌, ◌++◌, length, Option, Some, None, refl, sym, ap, ◌∙◌, subst, ⊎_elim, inl, inr}
use Rattle.std.specs.Option.{is_none, option_map}
use Rattle.role_steps.proofs.of_plain_facts.Numbers.{equal, equal_self}
use Rattle.role_steps.proofs.of_plain_facts.Tests.{and_second, and_true, true_false}
use Rattle.locus_ids.specs.declared.config.Config.{Config}
use Rattle.locus_ids.specs.declared.ids.CallId.{CallId}
use Rattle.locus_ids.specs.declared.ids.EpochId.{EpochId}
use Rattle.locus_ids.specs.declared.ids.FileId.{FileId}
use Rattle.locus_ids.specs.declared.ids.Kind.{Kind}
use Rattle.locus_ids.specs.declared.ids.Mode.TheVariants as mode
use Rattle.locus_ids.specs.declared.ids.Serial.{Serial}
use Rattle.locus_ids.specs.declared.ids.Stamp.{Stamp}
use Rattle.locus_ids.specs.declared.refusal.Refusal.{Refusal}
use Rattle.locus_ids.specs.declared.refusal.Refusal.TheVariants as refusal
use Rattle.locus_ids.specs.declared.sites.Members.{Members}
use Rattle.locus_ids.specs.declared.sites.Sites.{Sites}
use Rattle.commit_graph.specs.Grants.{Opener}
use Rattle.commit_graph.specs.Versions.{same_file}
use Rattle.trace_book.specs.Same.{same_epoch}
use Rattle.trace_book.specs.declared.operation.What.{What}
use Rattle.call_rules.specs.declared.want.Want.{Want}
use Rattle.call_rules.specs.declared.want.Want.TheVariants as want
use Rattle.wire_messages.specs.declared.body.OpenedAs.TheVariants as opened
use Rattle.wire_messages.specs.declared.body.Opening.TheVariants as how
use Rattle.role_steps.specs.Opens.{answers_open, call_id, grant_record, is_open_on, open_key, open_row, refuse_record, with_open}
use Rattle.role_steps.specs.Own.{Every}
use Rattle.role_steps.specs.Tables.{with_latest}
use Rattle.role_steps.specs.Views.{Frame, Told, serial_key}
use Rattle.role_steps.specs.declared.synchronizing.OpenRow.{OpenRow}
use Rattle.role_steps.specs.declared.synchronizing.OpenStage.TheVariants as stage
use Rattle.role_steps.specs.declared.synchronizing.SyncTable.{SyncTable}
use Rattle.the_run.specs.Worlds.{Line}
use Rattle.tree_model.specs.declared.accepted.Waiting.{Waiting}
use Rattle.tree_model.specs.declared.instance.Instance.{Instance}
use Rattle.tree_model.specs.Epochs.{members_of}
use Rattle.tree_model.specs.Given.{refuses}
use Rattle.tree_model.specs.Histories.{history}
use Rattle.tree_model.specs.Opening.{is_given_by, is_site, lacks_numbers, making_set, making_site, open_refusal}
use Rattle.tree_model.specs.Packs.{is_good_set, making_site_in}
use Rattle.tree_model.specs.State.{TreeState, held_at, is_granted, is_taken, process_of}
use Rattle.tree_model.specs.Tree.{grant_of, opened as opened_as, tree_of, without_make}
use Rattle.lawful_trace.specs.Progress.{answers, wants_next}
use Rattle.lawful_trace.specs.TreeRows.{MayOpen, is_open_of, is_served}
use Rattle.tree_laws.specs.Calls.{request_number}
use Rattle.tree_laws.specs.Doing.{TableFine}
use Rattle.tree_laws.specs.Following.{MayTell, OpensInTime}
use Rattle.tree_laws.specs.Frames.{VersionsStay}
use Rattle.tree_laws.specs.Instances.{AsksOpen, IsFull, IsOpening}
use Rattle.tree_laws.specs.Packets.{IsCallOf, JoinsParents, MakesNow, file_in}
use Rattle.tree_laws.specs.Past.{NamesHere, Printed, WasBegun, WasNamed, WasRefused, WasReleased}
use Rattle.tree_laws.specs.Printed.{entries}
use Rattle.tree_laws.specs.Tables.{IsGrantedNow, MakeAsked, RowFact, named_instance, named_openers, named_row, tree_openers}
use Rattle.tree_laws.proofs.CarriedLooks.{More, call_of_stays}
use Rattle.tree_laws.proofs.CarriedVersions.{joins_stay}
use Rattle.tree_laws.proofs.Hearing.{asks_next}
use Rattle.tree_laws.proofs.Kinship.{tree_epoch_is, tree_group_is}
use Rattle.tree_laws.proofs.Names.{same_epoch_own, true_or_false}
use Rattle.tree_laws.proofs.Serials.{unnamed}
use Rattle.tree_laws.proofs.Versions.{versions_stay}
use Rattle.store_laws.proofs.of_tree_laws.Orders.Knowing.{tree_config}
use Rattle.store_laws.proofs.of_tree_laws.Orders.Standing.{same_file_eq}
use Rattle.store_laws.specs.Holdings.OneVersionNumbers.{IsFreeNumber}
use Rattle.store_laws.proofs.Holdings.OneVersionMakes.{free_number}
use Rattle.store_laws.specs.of_tree_laws.Syncs.Making.{MakesAreSaid}
use Rattle.store_laws.specs.of_tree_laws.Syncs.Serving.{Serving}
use Rattle.store_laws.specs.of_tree_laws.Syncs.Staying.{FilesStay}
use Rattle.store_laws.proofs.of_tree_laws.Syncs.Adding.{openers_added, put_table}
use Rattle.store_laws.proofs.of_tree_laws.Syncs.Again.{again}
use Rattle.store_laws.proofs.of_tree_laws.Syncs.Answering.{openers_replaced}
use Rattle.store_laws.proofs.of_tree_laws.Syncs.Looks.{group_served}
use Rattle.store_laws.proofs.of_tree_laws.Syncs.Merging.{tree_members}
use Rattle.store_laws.proofs.of_tree_laws.Syncs.Openings.{here, its, opening_asked}
use Rattle.store_laws.proofs.of_tree_laws.Syncs.OpensStay.{open_row_stays}
use Rattle.store_laws.proofs.of_tree_laws.Syncs.TreeCalls.{call_in_is, granted_was_named, released_was_named}
use Rattle.store_laws.proofs.of_tree_laws.Syncs.Trees.{same_if}
use Rattle.store_laws.proofs.Said.{asked_as_said}
use Rattle.store_laws.proofs.Tabled.{every_latest}
use Rattle.store_laws.specs.OneTree.Rest.{Past}
use Rattle.rest_laws.proofs.EpochTreeStarted.{begun_joined}
use Rattle.rest_laws.proofs.MadePlacing.{alone_replaced, untaken_openers}

-- a make is asked of any number of its group
make_of : (c : Config) (w : Want) (f g : FileId) (set : Sites) (k : Kind) → f.group ≡ g.group → IsOpening c w f (how.Make set k) → is_open_of mode.Make f w ≡ true → is_open_of mode.Make g w ≡ true
make_of c (want.Make group kind sites) f g set k same o e = subst (λ (m : ℕ). (group == m) ≡ true) same e
make_of c (want.Open h m) f g set k same o e = absurd (true_false (sym e))
make_of c (want.OpenToMend h) f g set k same o e = absurd (true_false (sym e))
make_of c (want.Look h w) f g set k same o e = absurd o
make_of c (want.Do i op) f g set k same o e = absurd o
make_of c (want.Close i) f g set k same o e = absurd o
make_of c (want.Give r) f g set k same o e = absurd o
make_of c want.Never f g set k same o e = absurd o

module _ (c : Config) (n : ℕ) (trace : List Line) (f : Frame) (tab : SyncTable) (past : Past c trace) (sv : Serving c n trace f tab) (said : MakesAreSaid c trace) (r : OpenRow) (fact : RowFact c trace f.epoch tab.group (record r { mode = mode.Make; stage = stage.Asked })) (found : open_row tab r.inst ≡ Some (record r { mode = mode.Make; stage = stage.Asked })) where
  abbrev q : OpenRow
  q = record r { mode = mode.Make; stage = stage.Asked }

  abbrev asked : MakeAsked c trace f.epoch (record r { mode = mode.Make; stage = stage.Asked }) fact.call
  asked = fact.stage

  abbrev now : MakesNow c trace f.epoch r.ss r.inst r.file.group r.set r.kind
  now = fact.stage.make

  started : tab.started ≡ true
  started = sv.table.started ∙ subst (λ (g : ℕ). (tree_of c f.epoch g (entries trace)).started ≡ true) fact.group_is now.started

  abbrev d : CallId
  d = call_id f r.inst.us r.call

  call_is : d ≡ fact.call
  call_is = its c n trace f tab sv started r.inst.us r.inst.serial r.call r.process r.request r.file fact.group_is fact.call fact.is_call

  here_now : IsCallOf trace f.epoch r.inst.us r.call r.process d
  here_now = here c n trace f tab sv started r.inst.us r.inst.serial r.call r.process r.request r.file fact.group_is fact.call fact.is_call

  asks : AsksOpen c trace f.epoch d r.request r.inst.serial r.file (how.Make r.set r.kind)
  asks = subst (λ (y : CallId). AsksOpen c trace f.epoch y r.request r.inst.serial r.file (how.Make r.set r.kind)) (asked.call_is ∙ sym call_is)
      (subst (λ (m : ℕ). AsksOpen c trace f.epoch now.call m r.inst.serial r.file (how.Make r.set r.kind)) asked.request_is
      (subst (λ (g : FileId). AsksOpen c trace f.epoch now.call now.request r.inst.serial g (how.Make r.set r.kind)) asked.file_is now.asks))

  pub unnamed_yet : WasNamed trace f.epoch r.inst → ⊥
  unnamed_yet = unnamed c trace f.epoch d r.request r.inst r.file (how.Make r.set r.kind) sv.followed asks refl

  not_look : (g : FileId) (w : What) → asks.wanted ≡ want.Look g w → ⊥
  not_look g w e = subst (λ (v : Want). IsOpening c v r.file (how.Make r.set r.kind)) e asks.opening_is

  next_is : (wants_next c (entries trace) d ≡ asks.wanted) × (request_number trace d ≡ length (answers c (entries trace) d) + 1)
  next_is = asks_next c trace d asks.wanted sv.followed asks.asks not_look

  -- it has no number yet
  no_number : r.file.ino ≡ 0
  no_number = over asks.wanted asks.opening_is (opening_asked c asks.wanted r.file (how.Make r.set r.kind) asks.opening_is)
    where
      over : (w : Want) → IsOpening c w r.file (how.Make r.set r.kind) → is_open_of mode.Make r.file w ≡ true → r.file.ino ≡ 0
      over (want.Make group kind sites) o e = o.1
      over (want.Open h m) o e = absurd (true_false (sym e))
      over (want.OpenToMend h) o e = absurd (true_false (sym e))
      over (want.Look h w) o e = absurd o
      over (want.Do i op) o e = absurd o
      over (want.Close i) o e = absurd o
      over (want.Give s) o e = absurd o
      over want.Never o e = absurd o

  -- ---- in the tree ----

  abbrev t : TreeState
  t = tree_of c f.epoch r.file.group (entries trace)

  abbrev tab_tree : TreeState
  tab_tree = tree_of c f.epoch tab.group (entries trace)

  place : making_site_in c r.file.group (members_of (entries trace) f.epoch) r.inst.us r.set ≡ Some r.ss
  place = subst (λ (s : ℕ). making_site_in c r.file.group (members_of (entries trace) f.epoch) s r.set ≡ Some r.ss) (sym now.user_is) now.at

  set_is : making_set (tree_of c f.epoch r.file.group (entries trace)) d ≡ r.set
  set_is = said.said f.epoch d r.request r.inst.serial r.file r.set r.kind asks

  site_is : making_site (tree_of c f.epoch r.file.group (entries trace)) d ≡ Some r.ss
  site_is =
      ap (λ (y : Config). making_site_in y t.group t.members r.inst.us (making_set t d)) (tree_config c f.epoch r.file.group (entries trace))
      ∙ (ap (λ (g : ℕ). making_site_in c g t.members r.inst.us (making_set t d)) (tree_group_is c f.epoch r.file.group (entries trace))
      ∙ (ap (λ (m : Option Members). making_site_in c r.file.group m r.inst.us (making_set t d)) (tree_members c f.epoch r.file.group (entries trace))
      ∙ (ap (making_site_in c r.file.group (members_of (entries trace) f.epoch) r.inst.us) set_is ∙ place)))

  unrefused : (file : FileId) → open_refusal (history c (entries trace)) (tree_of c f.epoch r.file.group (entries trace)) mode.Make d file ≡ None
  unrefused file =
      ap (λ (y : Config). cond (is_good_set y t.group t.members (making_set t d)) None (Some refusal.NoStorage)) (tree_config c f.epoch r.file.group (entries trace))
      ∙ (ap (λ (g : ℕ). cond (is_good_set c g t.members (making_set t d)) None (Some refusal.NoStorage)) (tree_group_is c f.epoch r.file.group (entries trace))
      ∙ (ap (λ (m : Option Members). cond (is_good_set c r.file.group m (making_set t d)) None (Some refusal.NoStorage)) (tree_members c f.epoch r.file.group (entries trace))
      ∙ (ap (λ (s : Sites). cond (is_good_set c r.file.group (members_of (entries trace) f.epoch) s) None (Some refusal.NoStorage)) set_is
      ∙ ap (λ (b : Bool). cond b None (Some refusal.NoStorage)) now.good)))

  opens_row : (file : FileId) → file.group ≡ r.file.group → MayOpen c (entries trace) f.epoch d r.request mode.Make file
  opens_row file same = record {
    served = subst (λ (g : ℕ). is_served c (entries trace) f.epoch g ≡ true) (sym (same ∙ fact.group_is)) (group_served c n trace f tab sv);
    step = here_now.inside;
    numbered = asks.request_is ∙ next_is.1;
    asked = subst (λ (w : Want). is_open_of mode.Make file w ≡ true) (sym next_is.0) (make_of c asks.wanted r.file file r.set r.kind (sym same) asks.opening_is (opening_asked c asks.wanted r.file (how.Make r.set r.kind) asks.opening_is));
  }

  abbrev in_time : (file : FileId) → file.group ≡ r.file.group → OpensInTime c trace f.epoch d r.request r.inst mode.Make file
  in_time file same = record { asked = r.file; it = how.Make r.set r.kind; mode_is = refl; asks = asks; user_is = refl; group_is = same }

  -- without a number it has no file open
  unopened : (ino : ℕ) → (ino ≡ 0 → ⊥) → same_file r.file (file_in tab.group ino) ≡ false
  unopened ino some = over (same_file r.file (file_in tab.group ino)) refl
    where
      over : (b : Bool) → same_file r.file (file_in tab.group ino) ≡ b → b ≡ false
      over true z = absurd (some (sym (equal r.file.ino ino (and_second (r.file.group == tab.group) _ z)) ∙ no_number))
      over false z = refl

  -- ---- it is granted the number ----

  module _ (ino size : ℕ) (begun : WasBegun trace r.ss f.epoch r.inst (record { group = r.file.group; ino = ino })) where
    abbrev g : FileId
    g = record { group = r.file.group; ino = ino }

    abbrev made : OpenRow
    made = record r { mode = mode.Make; stage = stage.Granted; file = record { group = r.file.group; ino = ino }; size = size }

    abbrev y : Told
    y = grant_record f made

    free : IsFreeNumber c trace f.epoch r.ss (record { group = r.file.group; ino = ino })
    free = free_number c trace past.rest.packs sv.followed r.ss f.epoch r.inst (record { group = r.file.group; ino = ino }) begun unnamed_yet

    not_granted : not (is_granted (tree_of c f.epoch r.file.group (entries trace)) r.inst) ≡ true
    not_granted = ⊎_elim (λ (e : is_granted t r.inst ≡ true). absurd (unnamed_yet (granted_was_named c trace f.epoch r.file.group r.inst e))) (λ (e : is_granted t r.inst ≡ false). ap not e) (true_or_false (is_granted t r.inst))

    may : MayTell c trace y
    may = record {
      row = record {
        opens = opens_row g refl;
        gives = and_true t.started _ now.started (and_true (is_none (open_refusal (history c (entries trace)) t mode.Make d g)) _ (ap is_none (unrefused g)) (and_true (r.inst.us == r.inst.us) _ (equal_self r.inst.us) (and_true (not (is_granted t r.inst)) _ not_granted
            (and_true (is_site (making_site t d) r.ss && (is_given_by r.ss ino && (is_none (held_at t r.ss ino) && not (is_taken t g)))) (is_none r.stamp)
            (and_true (is_site (making_site t d) r.ss) _ (ap (λ (o : Option ℕ). is_site o r.ss) site_is ∙ equal_self r.ss) (and_true (is_given_by r.ss ino) _ free.given (and_true (is_none (held_at t r.ss ino)) _ (ap is_none free.held) (ap not free.taken))))
            (ap is_none asked.stamp_is)))));
        there = begun_joined c r.ss f.epoch r.inst (record { group = r.file.group; ino = ino }) trace sv.followed begun;
      };
      in_time = record { opens = in_time g refl; makes = begun; new = unnamed_yet };
    }

    stay : FilesStay c trace (More n y trace) y
    stay = sv.stay y may (refl, fact.group_is)

    vs : VersionsStay c trace (More n y trace)
    vs = versions_stay c n y trace sv.followed may stay.stay.fresh stay.stay.order

    granted_now : IsGrantedNow (More n y trace) f.epoch made d
    granted_now = record { was_granted = inl (record { epoch_is = refl; call_is = refl; request_is = refl; serial_is = refl; mode_is = refl; file_is = refl; stamp_is = refl; place_is = refl }); unreleased = over }
      where
        over : WasReleased (More n y trace) f.epoch r.inst → ⊥
        over (inl p) = p
        over (inr w) = unnamed_yet (released_was_named c trace f.epoch r.inst sv.followed w)

    vector_is : JoinsParents c (More n y trace) (record { group = r.file.group; ino = ino }) r.parents r.vector
    vector_is = subst (λ (ps : List Stamp). JoinsParents c (More n y trace) (record { group = r.file.group; ino = ino }) ps r.vector) (sym asked.parents_are) (subst (λ (ps : List Stamp). JoinsParents c trace r.file ps r.vector) asked.parents_are fact.vector_is)

    fact_now : RowFact c (More n y trace) f.epoch tab.group made
    fact_now = record {
      call = d;
      is_call = call_of_stays c n y trace sv.followed may f.epoch r.inst.us r.call r.process d here_now;
      group_is = fact.group_is;
      stage = (granted_now, asked_as_said c trace f.epoch d r.request r.inst.serial r.file r.set r.kind asks, tt);
      vector_is = vector_is;
      sees = tt;
    }

    names_it : (i : Serial) → Printed (NamesHere f.epoch tab.group i) trace y → i ≡ r.inst
    names_it i p = sym p.0.serial_is

    -- the instance that the tree opens
    abbrev new : Instance
    new = opened_as (history c (entries trace)) (grant_of tab_tree d r.inst mode.Make g r.ss) r.stamp

    opener_same : named_row made ≡ named_instance new
    opener_same = ap (λ (p : ℕ). (r.inst, record { site = r.inst.us; process = p; mode = mode.Make })) (sym (ap process_of (call_in_is c f.epoch tab.group (entries trace) d ∙ ap (option_map (λ (w : Waiting). record { call = w.call; process = w.process; words = w.words })) here_now.named) ∙ here_now.process_is))

    tree_then : (file : FileId) → tree_openers (tree_of c f.epoch tab.group (entries (More n y trace))) file ≡ tree_openers tab_tree file ++ cond (same_file g file) (named_instance new ∷ []) []
    tree_then file = over (same_epoch f.epoch tab_tree.epoch) epoch_own (r.file.group == tab_tree.group) group_own
      where
        epoch_own : same_epoch f.epoch tab_tree.epoch ≡ true
        epoch_own = subst (λ (e : EpochId). same_epoch f.epoch e ≡ true) (sym (tree_epoch_is c f.epoch tab.group (entries trace))) (same_epoch_own f.epoch)

        group_own : (r.file.group == tab_tree.group) ≡ true
        group_own = subst (λ (m : ℕ). (r.file.group == m) ≡ true) (fact.group_is ∙ sym (tree_group_is c f.epoch tab.group (entries trace))) (equal_self r.file.group)

        over : (a : Bool) → a ≡ true → (b : Bool) → b ≡ true → tree_openers (cond a (record tab_tree { grants = tab_tree.grants ++ grant_of tab_tree d r.inst mode.Make g r.ss ∷ []; instances = cond b (tab_tree.instances ++ new ∷ []) tab_tree.instances }) tab_tree) file
            ≡ tree_openers tab_tree file ++ cond (same_file g file) (named_instance new ∷ []) []
        over true e true k = openers_added (λ (z : Instance). same_file z.grant.file file) named_instance tab_tree.instances new
        over true e false k = absurd (true_false (sym k))
        over false e b k = absurd (true_false (sym e))

    nobody : (file : FileId) → same_file g file ≡ true → tree_openers (tree_of c f.epoch tab.group (entries trace)) file ≡ []
    nobody file same = untaken_openers c trace sv.followed f.epoch tab.group file (subst (λ (h : FileId). is_taken (tree_of c f.epoch tab.group (entries trace)) h ≡ false) (same_file_eq g file same) (subst (λ (m : ℕ). is_taken (tree_of c f.epoch m (entries trace)) g ≡ false) fact.group_is free.taken))

    openers_now : (i : ℕ) → (i ≡ 0 → ⊥) → named_openers (with_open made tab) (file_in tab.group i) ≡ tree_openers (tree_of c f.epoch tab.group (entries (More n y trace))) (file_in tab.group i)
    openers_now i some = over (same_file g (file_in tab.group i)) refl
      where
        file : FileId
        file = file_in tab.group i

        nil_after : (xs : List (Serial × Opener)) → xs ++ [] ≡ xs
        nil_after [] = refl
        nil_after (x ∷ xs) = ap (λ (zs : List (Serial × Opener)). x ∷ zs) (nil_after xs)

        -- the row as it was has no file open
        was : is_open_on (file_in tab.group i) q ≡ false
        was = ap (λ (b : Bool). b && true) (unopened i some)

        over : (b : Bool) → same_file g (file_in tab.group i) ≡ b → named_openers (with_open made tab) (file_in tab.group i) ≡ tree_openers (tree_of c f.epoch tab.group (entries (More n y trace))) (file_in tab.group i)
        over true same =
            alone_replaced open_key (is_open_on (file_in tab.group i)) named_row made q tab.opens found was (ap (λ (b : Bool). b && true) same) (sv.table.openers_are i some ∙ nobody (file_in tab.group i) same)
            ∙ sym (tree_then (file_in tab.group i) ∙ (ap (λ (b : Bool). tree_openers tab_tree (file_in tab.group i) ++ cond b (named_instance new ∷ []) []) same
            ∙ (ap (λ (os : List (Serial × Opener)). os ++ named_instance new ∷ []) (nobody (file_in tab.group i) same) ∙ ap (λ (o : Serial × Opener). o ∷ []) (sym opener_same))))
        over false other =
            openers_replaced open_key (is_open_on (file_in tab.group i)) named_row made q tab.opens found (ap (λ (b : Bool). b && true) other ∙ sym was) refl
            ∙ (sv.table.openers_are i some
            ∙ sym (tree_then (file_in tab.group i) ∙ (ap (λ (b : Bool). tree_openers tab_tree (file_in tab.group i) ++ cond b (named_instance new ∷ []) []) other ∙ nil_after (tree_openers tab_tree (file_in tab.group i)))))

    rows_now : Every (RowFact c (More n y trace) f.epoch tab.group) (with_latest open_key made tab.opens)
    rows_now = every_latest open_key made (RowFact c trace f.epoch tab.group) (RowFact c (More n y trace) f.epoch tab.group) tab.opens
        (λ z ne k. open_row_stays c n y trace sv.followed may vs f tab.group (λ a. a) z (λ p. ne (ap serial_key (names_it z.inst p))) k) sv.table.apart sv.table.opens fact_now

    pub granted_fine : TableFine c n trace f tab.group (answers_open f q (opened.Open ino size) tab)
    granted_fine = record {
      told = (may, tt);
      own = ((refl, fact.group_is), tt);
      view = record { group_is = refl; table = put_table c n trace f tab sv y may stay made (λ a. a) (λ a. a) (λ a. a) (λ a. a) names_it rows_now openers_now };
      sent = again c (More n y trace) f tab.group made fact_now stage.Granted fact_now.stage;
      written = tt;
    }

  -- ---- no number is left ----

  module _ (why : Refusal) (reason : why ≡ refusal.NoInode) (full : IsFull c trace f.epoch r.ss r.file.group) (unbegun : (s : ℕ) (file : FileId) → WasBegun trace s f.epoch r.inst file → ⊥) (lacks : lacks_numbers (tree_of c f.epoch r.file.group (entries trace)) (Some r.ss) ≡ true) where
    abbrev denied : OpenRow
    denied = record r { mode = mode.Make; stage = stage.Refused why }

    abbrev x : Told
    x = refuse_record f denied why

    may_refuse : MayTell c trace x
    may_refuse = record {
      row = record {
        opens = opens_row r.file refl;
        gives = and_true t.started _ now.started (and_true (r.file.ino == 0) _ (subst (λ (m : ℕ). (m == 0) ≡ true) (sym no_number) refl)
            (ap (refuses (history c (entries trace)) t d mode.Make r.file why) (unrefused r.file)
            ∙ subst (λ (w : Refusal). refuses (history c (entries trace)) t d mode.Make r.file w None ≡ true) (sym reason) (ap (lacks_numbers t) site_is ∙ lacks)));
      };
      in_time = record { opens = in_time r.file refl; make = inl (record { reason_is = reason; ss = r.ss; at = place; full = full; unbegun = unbegun }); new = unnamed_yet };
    }

    stay_refused : FilesStay c trace (More n x trace) x
    stay_refused = sv.stay x may_refuse (refl, fact.group_is)

    vs_refused : VersionsStay c trace (More n x trace)
    vs_refused = versions_stay c n x trace sv.followed may_refuse stay_refused.stay.fresh stay_refused.stay.order

    refused : WasRefused (More n x trace) f.epoch d r.request r.inst mode.Make why
    refused = inl (record { epoch_is = refl; call_is = refl; request_is = refl; serial_is = refl; mode_is = refl; reason_is = refl })

    fact_refused : RowFact c (More n x trace) f.epoch tab.group denied
    fact_refused = record {
      call = d;
      is_call = call_of_stays c n x trace sv.followed may_refuse f.epoch r.inst.us r.call r.process d here_now;
      group_is = fact.group_is;
      stage = refused;
      vector_is = joins_stay c trace (More n x trace) vs_refused r.file r.parents r.vector fact.vector_is;
      sees = tt;
    }

    names_refused : (i : Serial) → Printed (NamesHere f.epoch tab.group i) trace x → i ≡ r.inst
    names_refused i p = sym p.0.serial_is

    openers_refused : (i : ℕ) → (i ≡ 0 → ⊥) → named_openers (with_open denied tab) (file_in tab.group i) ≡ tree_openers (tree_of c f.epoch tab.group (entries (More n x trace))) (file_in tab.group i)
    openers_refused i some =
        openers_replaced open_key (is_open_on (file_in tab.group i)) named_row denied q tab.opens found (ap (λ (b : Bool). b && false) (unopened i some) ∙ sym (ap (λ (b : Bool). b && true) (unopened i some))) refl
        ∙ (sv.table.openers_are i some ∙ sym (same_if (λ (u : TreeState). tree_openers u (file_in tab.group i)) _ (record tab_tree { makes = without_make d tab_tree.makes }) tab_tree (λ b. refl)))

    rows_refused : Every (RowFact c (More n x trace) f.epoch tab.group) (with_latest open_key denied tab.opens)
    rows_refused = every_latest open_key denied (RowFact c trace f.epoch tab.group) (RowFact c (More n x trace) f.epoch tab.group) tab.opens
        (λ z ne k. open_row_stays c n x trace sv.followed may_refuse vs_refused f tab.group (λ a. a) z (λ p. ne (ap serial_key (names_refused z.inst p))) k) sv.table.apart sv.table.opens fact_refused

    pub refused_fine : TableFine c n trace f tab.group (answers_open f q (opened.No why) tab)
    refused_fine = record {
      told = (may_refuse, tt);
      own = ((refl, fact.group_is), tt);
      view = record { group_is = refl; table = put_table c n trace f tab sv x may_refuse stay_refused denied (λ a. a) (λ a. a) (λ a. a) (λ a. a) names_refused rows_refused openers_refused };
      sent = ((d, r.request, mode.Make, refused), tt);
      written = tt;
    }
