-- What a call made and closed stands, of the kind that its words say.
use Rattle.std.proofs.Common.{◌≡◌, ℕ, ◌==◌, Bool, true, false, cond, List, [], ◌∷◌, Option, Some, None, refl, sym, ◌∙◌, ap, subst, inl, inr}
use Rattle.locus_ids.specs.declared.config.Config.{Config}
use Rattle.locus_ids.specs.declared.ids.CallId.{CallId}
use Rattle.locus_ids.specs.declared.ids.EpochId.{EpochId}
use Rattle.locus_ids.specs.declared.ids.FileId.{FileId}
use Rattle.locus_ids.specs.declared.ids.Kind.{Kind}
use Rattle.locus_ids.specs.declared.ids.Kind.TheVariants.{Dir}
use Rattle.locus_ids.specs.declared.ids.Mode.TheVariants as mode
use Rattle.locus_ids.specs.declared.ids.Serial.{Serial}
use Rattle.locus_ids.specs.declared.ids.Stamp.{Stamp}
use Rattle.commit_graph.specs.Versions.{same_file}
use Rattle.trace_book.specs.declared.record.Record.{Record}
use Rattle.trace_book.specs.declared.record.Record.TheVariants as says
use Rattle.std.specs.Option.{option_map, option_or}
use Rattle.role_steps.proofs.of_plain_facts.Numbers.{equal}
use Rattle.role_steps.proofs.of_plain_facts.Tests.{true_false}
use Rattle.role_steps.specs.Views.{Told, Shown}
use Rattle.the_run.specs.Worlds.{Line}
use Rattle.tree_model.specs.declared.accepted.Waiting.{Waiting}
use Rattle.tree_model.specs.declared.instance.Instance.{Instance}
use Rattle.tree_model.specs.Calls.{call_named}
use Rattle.tree_model.specs.Files.{committing, first_call, kind_made, words_named}
use Rattle.tree_model.specs.Folds.{Trace}
use Rattle.tree_model.specs.Opening.{is_given_by}
use Rattle.tree_model.specs.State.{is_named}
use Rattle.tree_model.specs.Tree.{tree_of}
use Rattle.lawful_trace.specs.TreeRows.{granted_group}
use Rattle.tree_laws.specs.Following.{IsFollowed, MayTell}
use Rattle.tree_laws.specs.Instances.{Stands, instance_now}
use Rattle.tree_laws.specs.Past.{EndRecord, GrantRecord, Printed, WasGranted, WasNamed, WasReleased}
use Rattle.tree_laws.specs.Printed.{entries, onto_entries}
use Rattle.tree_laws.proofs.CarriedLooks.{one_epoch}
use Rattle.tree_laws.proofs.Histories.{stands_more}
use Rattle.tree_laws.proofs.Rows.{followed_rows}
use Rattle.tree_laws.specs.Orders.Joining.{PacksAreOfSites}
use Rattle.tree_laws.proofs.Orders.Knowing.{versions_stand}
use Rattle.tree_laws.proofs.Orders.Lists.{all_found}
use Rattle.store_laws.specs.Holdings.Held.{StandsOnHeld}
use Rattle.store_laws.proofs.Holdings.Holding.{stands_on_held}
use Rattle.tree_laws.proofs.Orders.ProcessGranting.{released_named}
use Rattle.store_laws.proofs.Holdings.OneVersionFirsts.{MakesFirst, makes_first}
use Rattle.store_laws.proofs.Holdings.OneVersionHomes.{no_root}
use Rattle.store_laws.proofs.Places.{open_is}
use Rattle.store_laws.proofs.OneTree.NumberOwed.{IsOwed, all_owed}
use Rattle.rest_laws.proofs.TableCalled.{open_make_called}
use Rattle.rest_laws.specs.Fits.EntryEntries.{NamesFile}
use Rattle.rest_laws.proofs.Fits.EntryFacts.{WasEnded, WasMade, With}

-- the call committed the first version of the file, which is no root
record MadeSo (c : Config) (t : List Line) (f : FileId) (d : CallId) : Type 0 where
  first : first_call c (entries t) f ≡ Some d
  stamp : Stamp
  stands : Stands c t f stamp
  other : (f.ino == 1) ≡ false

pub first_more : (c : Config) (n : ℕ) (r : Record) (before : Trace) (f : FileId) (d : CallId) → first_call c before f ≡ Some d → first_call c (record { line = n; what = r } ∷ before) f ≡ Some d
first_more c n (says.Commit g z stamp parents content) before f d k = ap (λ (o : Option CallId). option_or o (cond (same_file g f) (option_map (λ (x : Instance). x.grant.call) (committing c before f z)) None)) k
first_more c n r before f d k = k

made_stays : (c : Config) (n : ℕ) (x : Told) (older : List Line) (f : FileId) (d : CallId) → MadeSo c older f d → MadeSo c (With n x older) f d
made_stays c n x older f d m = record { first = over x; stamp = m.stamp; stands = stands_more c n x older f m.stamp m.stands; other = m.other }
  where
    over : (y : Told) → first_call c (onto_entries n y (entries older)) f ≡ Some d
    over (Shown r) = first_more c n r (entries older) f d m.first
    over _ = m.first

-- ---- the end of a make ----

module _ (c : Config) (packs : PacksAreOfSites c) (older : List Line) (h : IsFollowed c older) (e : EpochId) (i : Serial) (at : Instance) (found : instance_now c older e i ≡ Some at) (make : at.grant.mode ≡ mode.Make) (owes : at.work.owes ≡ false) where
  given : is_given_by at.grant.ss at.grant.file.ino ≡ true
  given = (all_found (MakesFirst c (entries older) e) (is_named i) (tree_of c e (granted_group (entries older) e i) (entries older)).instances at (makes_first c older packs h e (granted_group (entries older) e i)) found make).0

  other : (b : Bool) → (at.grant.file.ino == 1) ≡ b → (at.grant.file.ino == 1) ≡ false
  other false k = k
  other true k = absurd (no_root at.grant.ss at.grant.file.ino given (equal at.grant.file.ino 1 k))

  committed : (o : Option Stamp) → at.work.committed ≡ o → MadeSo c older at.grant.file at.grant.call
  committed None k = absurd (true_false (sym (all_found IsOwed (is_named i) (tree_of c e (granted_group (entries older) e i) (entries older)).instances at (all_owed c e (granted_group (entries older) e i) (entries older)) found make k) ∙ owes))
  committed (Some s) k = record {
    first = open_make_called c older packs h e i at found make s k;
    stamp = s;
    stands = (versions_stand c (entries older) (followed_rows c older h)).held e at.grant.file at.grant.ss s (sym on.last_is ∙ on.made s k);
    other = other (at.grant.file.ino == 1) refl;
  }
    where
      on : StandsOnHeld c (entries older) e at
      on = stands_on_held c older h e i at found

-- a make that was released has made its file
released_made : (c : Config) (packs : PacksAreOfSites c) (t : List Line) → IsFollowed c t → (e : EpochId) (d : CallId) (request : ℕ) (i : Serial) (f : FileId) (stamp : Option Stamp) (ss : ℕ) → WasGranted t e d request i mode.Make f stamp ss → WasReleased t e i → MadeSo c t f d
released_made c packs [] h e d request i f stamp ss granted released = absurd released
released_made c packs (x ∷ older) h e d request i f stamp ss (inr granted) (inr released) = made_stays c x.number x.told older f d (released_made c packs older h.1 e d request i f stamp ss granted released)
released_made c packs (x ∷ older) h e d request i f stamp ss (inl granted) (inr released) = absurd (over x.told h.0 granted)
  where
    over : (y : Told) → MayTell c older y → Printed (GrantRecord e d request i mode.Make f stamp ss) older y → ⊥
    over (Shown (says.Grant at call number inst m file on place)) may p = may.in_time.new (subst (λ (j : Serial). WasNamed older at j) (sym p.serial_is) (subst (λ (y : EpochId). WasNamed older y i) (sym p.epoch_is) (released_named c older h.1 e i released)))
    over _ may p = absurd p
released_made c packs (x ∷ older) h e d request i f stamp ss (inl granted) (inl released) = absurd (over x.told granted released)
  where
    over : (y : Told) → Printed (GrantRecord e d request i mode.Make f stamp ss) older y → Printed (EndRecord e i) older y → ⊥
    over (Shown (says.Release at inst file last)) p q = p
    over (Shown (says.Grant at call number inst m file on place)) p q = q
    over _ p q = absurd p
released_made c packs (x ∷ older) h e d request i f stamp ss (inr granted) (inl released) = made_stays c x.number x.told older f d (over x.told h.0 released)
  where
    over : (y : Told) → MayTell c older y → Printed (EndRecord e i) older y → MadeSo c older f d
    over (Shown (says.Release at inst file last)) may p = subst (λ (g : FileId). MadeSo c older g d) is.1 (subst (λ (y : CallId). MadeSo c older may.in_time.at.grant.file y) is.3
        (committed c packs older h.1 at inst may.in_time.at may.in_time.open_at.found is.0 may.in_time.owes may.in_time.at.work.committed refl))
      where
        here : WasGranted older at d request inst mode.Make f stamp ss
        here = subst (λ (j : Serial). WasGranted older at d request j mode.Make f stamp ss) (sym p.serial_is) (subst (λ (y : EpochId). WasGranted older y d request i mode.Make f stamp ss) (sym p.epoch_is) granted)

        is : (may.in_time.at.grant.mode ≡ mode.Make) × (may.in_time.at.grant.file ≡ f) × (may.in_time.at.grant.ss ≡ ss) × (may.in_time.at.grant.call ≡ d)
        is = open_is c older h.1 at d request inst mode.Make f stamp ss may.in_time.at here may.in_time.open_at.found
    over _ may p = absurd p

-- what a call made and closed
module _ (c : Config) (packs : PacksAreOfSites c) (t : List Line) (h : IsFollowed c t) (d : CallId) (group : ℕ) (i : Serial) (ino : ℕ) (made : WasMade t d group i ino) (ended : WasEnded t d i) where
  abbrev f : FileId
  f = record { group = group; ino = ino }

  so : MadeSo c t f d
  so = released_made c packs t h made.epoch d made.request i f made.stamp made.ss made.was_granted (subst (λ (e : EpochId). WasReleased t e i) (one_epoch t ended.epoch made.epoch d ended.inside made.inside) ended.was_released)

  -- it was the first to commit it
  pub made_first : first_call c (entries t) f ≡ Some d
  made_first = so.first

  -- it stands, of the kind that its words say
  pub made_named : (w : Waiting) → call_named (entries t) d ≡ Some w → (k : Kind) → kind_made (Some w.words) ≡ k → NamesFile c t group ino k
  made_named w named k words = record {
    stamp = so.stamp;
    stands = so.stands;
    kind_is = sym words ∙ (ap (λ (o : Option Waiting). kind_made (option_map (λ (v : Waiting). v.words) o)) (sym named) ∙ (ap (λ (o : Option CallId). kind_made (words_named (entries t) o)) (sym so.first)
        ∙ sym (ap (λ (b : Bool). cond b Dir (kind_made (words_named (entries t) (first_call c (entries t) f)))) so.other)));
  }
