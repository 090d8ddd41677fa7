-- An adoption: it comes as it may, and the copy on the disk is then what the site holds.
use Rattle.std.proofs.Common.{◌≡◌, ℕ, ◌<◌, ◌==◌, Bool, true, false, cond, ◌&&◌, List, [], ◌∷◌, length, Option, Some, None, refl, sym, ◌∙◌, ap, subst, ◌⊎◌, inl, inr}
use Rattle.std.specs.List.{list_any}
use Rattle.std.specs.Option.{is_some, option_map, unwrap_or}
use Rattle.role_steps.proofs.Fitting.{fits_above}
use Rattle.role_steps.proofs.of_plain_facts.Numbers.{equal, equal_self}
use Rattle.role_steps.proofs.of_plain_facts.Tests.{and_first, and_second, and_true, true_false}
use Rattle.locus_ids.specs.declared.config.Config.{Config}
use Rattle.locus_ids.specs.declared.ids.EpochId.{EpochId}
use Rattle.locus_ids.specs.declared.ids.FileId.{FileId}
use Rattle.locus_ids.specs.declared.ids.Stamp.{Stamp}
use Rattle.locus_ids.specs.declared.sites.Sites.{Sites}
use Rattle.locus_ids.specs.Sites.{has}
use Rattle.locus_ids.specs.Sizes.{inode_span}
use Rattle.commit_graph.specs.Vectors.{vector_of}
use Rattle.commit_graph.specs.Versions.{content_of as content_in, same_file}
use Rattle.file_content.specs.Pages.{pages_of}
use Rattle.wire_messages.specs.declared.body.Body.TheVariants as body
use Rattle.role_steps.specs.Adoption.{adopt_record, content_adopted, copy_adopted, fits_own, is_above_own}
use Rattle.role_steps.specs.Own.{Every}
use Rattle.role_steps.specs.Pulling.{is_complete, is_over, pages_got, wanted_pages}
use Rattle.role_steps.specs.Storage.{content_of, copy_key, copy_of, step_to, with_version}
use Rattle.role_steps.specs.Versions.{is_below}
use Rattle.role_steps.specs.Views.{Frame, Store, Told, Shown, file_key, sync_site, to_some, to_sync}
use Rattle.role_steps.specs.declared.copies.FileCopy.{FileCopy}
use Rattle.role_steps.specs.declared.pulls.Pull.{Pull}
use Rattle.the_run.specs.Kept.{Among}
use Rattle.the_run.specs.Worlds.{Line}
use Rattle.tree_model.specs.Epochs.{is_in as is_of_epoch}
use Rattle.tree_model.specs.Files.{HeldVersion, held_version, set_of_file, version_of}
use Rattle.tree_model.specs.Histories.{history, held}
use Rattle.tree_model.specs.State.{TreeState, copy_of as copy_of_site, held_at, held_of, is_copy_of, is_inside, with_copy as with_held}
use Rattle.tree_model.specs.Tree.{copy_now, tree_of}
use Rattle.lawful_trace.specs.TreeRows.{is_above, is_stored_at}
use Rattle.tree_laws.specs.Printed.{entries}
use Rattle.tree_laws.specs.Deltas.{AgreeBut, PullsOver, StepFact}
use Rattle.tree_laws.specs.Doing.{FrameFact, StoreHeld}
use Rattle.tree_laws.specs.Following.{MayTell, IsFollowed}
use Rattle.tree_laws.specs.Frames.{AllStay, VersionsStay}
use Rattle.tree_laws.specs.Instances.{held_in, HasAtLeast, Stands}
use Rattle.tree_laws.specs.Packets.{PacketFact}
use Rattle.tree_laws.specs.Stores.{CopiesAreHeld, InstanceFact, PullFact, copy_for}
use Rattle.tree_laws.proofs.Boots.{every_both}
use Rattle.tree_laws.proofs.CarriedVersions.{same_version_of}
use Rattle.tree_laws.proofs.Kinship.{started_stays, tree_group_is}
use Rattle.tree_laws.proofs.Names.{same_epoch_own}
use Rattle.tree_laws.proofs.Owing.{inside_is}
use Rattle.tree_laws.proofs.Rows.{followed_rows}
use Rattle.tree_laws.proofs.Versions.{versions_stay}
use Rattle.tree_laws.specs.Orders.Joining.{PacksAreOfSites}
use Rattle.tree_laws.proofs.Orders.Standing.{same_file_eq, same_stamp_eq}
use Rattle.store_laws.specs.Rests.{AdoptRests, StoreRests}
use Rattle.store_laws.proofs.Commits.{file_own, keys_same, put_found}
use Rattle.store_laws.proofs.Differing.{among_all, differ_stays, step_more, steps_stay}
use Rattle.store_laws.proofs.Holding.{held_stands, versions_same}
use Rattle.store_laws.proofs.PulledPages.{laid_is}
use Rattle.store_laws.proofs.Pulls.{own_ancestor}
use Rattle.store_laws.proofs.Serving.{IsCopy, copy_is as own_copy_is}
use Rattle.store_laws.proofs.Staying.{has_more, instance_more}
use Rattle.store_laws.proofs.Tabled.{ascends_row, row_other, row_same}

-- a pull over none is over no copy, and one over a copy begins from its stamp
over_none : (base : Option Stamp) → is_over None base ≡ true → base ≡ None
over_none None e = refl
over_none (Some b) e = absurd (true_false (sym e))

over_some : (x : FileCopy) (base : Option Stamp) → is_over (Some x) base ≡ true → base ≡ Some x.stamp
over_some x None e = absurd (true_false (sym e))
over_some x (Some b) e = ap Some (sym (same_stamp_eq x.stamp b e))

none_any : {A : Type 0} (p : A → Bool) (xs : List A) → ((x : A) → Among x xs → p x ≡ true → ⊥) → list_any p xs ≡ false
none_any p [] away = refl
none_any p (x ∷ xs) away = at (none_any p xs (λ y k. away y (inr k))) (p x) refl
  where
    at : list_any p xs ≡ false → (b : Bool) → p x ≡ b → list_any p (x ∷ xs) ≡ false
    at later true e = absurd (away x (inl refl) e)
    at later false e = rw e later

-- what was pulled over the site's own copy
module _ (c : Config) (trace : List Line) (rests : StoreRests c trace) (f : Frame) (s : Store) (kept : StoreHeld c f trace s) (p : Pull) (k : PullFact c trace f.epoch f.me p) (complete : is_complete p ≡ true) (fits : fits_own p (copy_of s p.file) ≡ true) where
  abbrev own_bytes : List ℕ
  own_bytes = content_of (copy_of s p.file)

  narrow_file : p.file.ino < inode_span
  narrow_file = rests.narrow p.file p.stamp (subst (λ (y : Stamp). Stands c trace p.file y) k.stamp_is k.is_version.stands)

  -- the pages that were pulled are all that differ from the own copy
  pub pulled_agree : AgreeBut (content_of (copy_of s p.file)) k.version.content (wanted_pages p)
  pulled_agree = over (held_version c (entries trace) f.me p.file) k.over (kept.copies.are p.file narrow_file)
    where
      known : is_some p.wanted ≡ true
      known = and_first (is_some p.wanted) _ complete

      unknown : p.wanted ≡ None → ⊥
      unknown e = true_false (sym known ∙ ap is_some e)

      any_base : (o : Option FileCopy) → copy_of s p.file ≡ o → is_over o p.base ≡ true
      any_base o e = subst (λ (x : Option FileCopy). is_over x p.base ≡ true) e (and_first (is_over (copy_of s p.file) p.base) _ fits)

      above : (o : Option FileCopy) → copy_of s p.file ≡ o → is_above_own p o ≡ true
      above o e = subst (λ (x : Option FileCopy). is_above_own p x ≡ true) e (and_second (is_over (copy_of s p.file) p.base) _ fits)

      agreed : (own : HeldVersion) → (p.wanted ≡ None) ⊎ AgreeBut own.content k.version.content (wanted_pages p) → AgreeBut own.content k.version.content (wanted_pages p)
      agreed own (inl e) = absurd (unknown e)
      agreed own (inr a) = a

      over : (o : Option HeldVersion) → PullsOver o p k.version → copy_of s p.file ≡ option_map (copy_for p.file) o → AgreeBut own_bytes k.version.content (wanted_pages p)
      over None z e = λ page inside. inl (subst (λ (o : Option (List ℕ)). Among page (unwrap_or o [])) (sym (z (over_none p.base (any_base None e)))) (among_all (pages_of (length k.version.content)) page inside))
      over (Some own) z e = subst (λ (o : Option FileCopy). AgreeBut (content_of o) k.version.content (wanted_pages p)) (sym e) (agreed own (z (over_some (copy_for p.file own) p.base (any_base (Some (copy_for p.file own)) e)) (above (Some (copy_for p.file own)) e)))

  all_came : pages_got p ≡ length (wanted_pages p)
  all_came = equal (pages_got p) (length (wanted_pages p)) (and_second (is_some p.wanted) _ complete)

  -- so together they are the version
  pub pulled_content : content_adopted p (content_of (copy_of s p.file)) ≡ k.version.content
  pulled_content = laid_is p.size (wanted_pages p) p.content own_bytes k.version.content k.size_is (λ i lt. k.pages i (subst (λ (m : ℕ). i < m) (sym all_came) lt)) pulled_agree

module _ (c : Config) (n : ℕ) (trace : List Line) (few : PacksAreOfSites c) (h : IsFollowed c trace) (rests : StoreRests c trace) (f : Frame) (frame : FrameFact c trace f) (s : Store) (kept : StoreHeld c f trace s) (p : Pull) (k : PullFact c trace f.epoch f.me p) (complete : is_complete p ≡ true) (wants : AdoptRests c trace f p) (fits : fits_own p (copy_of s p.file) ≡ true) where
  abbrev told : Told
  told = Shown (adopt_record f p)

  abbrev after : List Line
  after = record { number = n; told = told } ∷ trace

  abbrev tree : TreeState
  tree = tree_of c f.epoch p.file.group (entries trace)

  stands : Stands c trace p.file p.stamp
  stands = subst (λ (y : Stamp). Stands c trace p.file y) k.stamp_is k.is_version.stands

  narrow : p.file.ino < inode_span
  narrow = rests.narrow p.file p.stamp stands

  version_is : k.version ≡ version_of c (entries trace) p.file p.stamp
  version_is = k.is_version.same ∙ ap (version_of c (entries trace) p.file) k.stamp_is

  abbrev under : List ℕ
  under = content_of (copy_of s p.file)

  vector_same : p.vector ≡ vector_of (history c (entries trace)) p.file p.stamp
  vector_same = sym k.vector_is ∙ ap (λ (v : HeldVersion). v.vector) version_is

  set_same : p.set ≡ set_of_file c (entries trace) p.file
  set_same = sym k.set_is ∙ ap (λ (v : HeldVersion). v.set) version_is

  -- ---- it comes as it may ----

  is_above_held : is_above (history c (entries trace)) p.file (held c (entries trace) f.me p.file) p.stamp ≡ true
  is_above_held = over (held c (entries trace) f.me p.file) refl (kept.copies.are p.file narrow)
    where
      over : (o : Option Stamp) → held c (entries trace) f.me p.file ≡ o → copy_of s p.file ≡ option_map (copy_for p.file) (option_map (version_of c (entries trace) p.file) o) → is_above (history c (entries trace)) p.file o p.stamp ≡ true
      over None e q = refl
      over (Some old) e q = wants.below old (held_stands c (entries trace) (followed_rows c trace h) f.me p.file old e)
          (subst (λ (v : List ℕ). is_below (vector_of (history c (entries trace)) p.file old) v ≡ true) vector_same (sym (ap (is_above_own p) q) ∙ fits_above p (copy_of s p.file) fits))

  pub may_adopt : MayTell c trace (Shown (adopt_record f p))
  may_adopt = record {
    row = record {
      epoch = f.epoch;
      inside = frame.inside;
      known = k.known;
      for = subst (λ (y : Sites). has y f.me ≡ true) set_same k.wanted;
      above = is_above_held;
      shut = none_any (is_stored_at f.me p.file) tree.instances (λ x q e. wants.open_on x q e is_above_held);
    };
    in_time = record { epoch = f.epoch; inside = frame.inside; started = k.started; single = k.single };
  }

  -- ---- what the site has then ----

  inside : is_inside tree f.me ≡ true
  inside = inside_is c (entries trace) f.epoch p.file.group f.me ∙ (ap (λ (o : Option EpochId). is_of_epoch o f.epoch) frame.inside ∙ same_epoch_own f.epoch)

  pub has_adopted : HasAtLeast c after f.epoch f.me p.file p.stamp
  has_adopted = record { now = p.stamp; held = held_now; above = own_ancestor (history c (entries after)) p.file p.stamp }
    where
      group_test : (p.file.group == tree.group) ≡ true
      group_test = subst (λ (g : ℕ). (p.file.group == g) ≡ true) (sym (tree_group_is c f.epoch p.file.group (entries trace))) (equal_self p.file.group)

      held_now : held_in c (entries after) f.epoch f.me p.file ≡ Some p.stamp
      held_now = ap (λ (b : Bool). held_of (copy_of_site (cond b (with_held (copy_now tree f.me p.file.ino p.stamp) tree.copies) tree.copies) f.me p.file.ino)) group_test
          ∙ (ap held_of (put_found (is_copy_of f.me p.file.ino) (copy_now tree f.me p.file.ino p.stamp) tree.copies (and_true (f.me == f.me) (p.file.ino == p.file.ino) (equal_self f.me) (equal_self p.file.ino)))
          ∙ ap (λ (b : Bool). cond b (Some p.stamp) (held_at tree f.me p.file.ino)) inside)

  pub adopted_sent : Every (PacketFact c after) (to_sync f p.file.group (body.Have p.file p.stamp))
  adopted_sent = over (sync_site f.config f.members p.file.group)
    where
      over : (o : Option ℕ) → Every (PacketFact c after) (to_some f (body.Have p.file p.stamp) o)
      over None = tt
      over (Some site) = (record { started = started_stays c n told trace f.epoch p.file.group k.started; has = has_adopted }, tt)

  -- ---- the disk ----

  module _ (stay : AllStay c trace after told) where
    versions : VersionsStay c trace after
    versions = versions_stay c n told trace h may_adopt stay.fresh stay.order

    version_now : k.version ≡ version_of c (entries after) p.file p.stamp
    version_now = version_is ∙ sym (same_version_of c trace after versions p.file p.stamp stands)

    copy_is : copy_adopted p (content_of (copy_of s p.file)) ≡ copy_for p.file (version_of c (entries after) p.file p.stamp)
    copy_is = λ j. record {
      file = p.file;
      kind = (sym k.kind_is ∙ ap (λ (v : HeldVersion). v.kind) version_now) j;
      set = (sym k.set_is ∙ ap (λ (v : HeldVersion). v.set) version_now) j;
      stamp = p.stamp;
      vector = (sym k.vector_is ∙ ap (λ (v : HeldVersion). v.vector) version_now) j;
      content = (pulled_content c trace rests f s kept p k complete fits ∙ ap (λ (v : HeldVersion). v.content) version_now) j;
    }

    own_copy : (g : FileId) → p.file ≡ g → copy_of (with_version (copy_adopted p (content_of (copy_of s p.file))) (wanted_pages p) s) g ≡ option_map (copy_for g) (held_version c (entries after) f.me g)
    own_copy g same = subst (λ (y : FileId). copy_of (with_version (copy_adopted p (content_of (copy_of s p.file))) (wanted_pages p) s) y ≡ option_map (copy_for y) (held_version c (entries after) f.me y)) same
        (row_same copy_key (copy_adopted p (content_of (copy_of s p.file))) s.copies ∙ (ap Some copy_is ∙ sym (ap (λ (o : Option Stamp). option_map (copy_for p.file) (option_map (version_of c (entries after) p.file) o)) held_own)))
      where
        held_own : held c (entries after) f.me p.file ≡ Some p.stamp
        held_own = ap (λ (b : Bool). cond b (Some p.stamp) (held c (entries trace) f.me p.file)) (and_true (same_file p.file p.file) (f.me == f.me) (file_own p.file) (equal_self f.me))

    other_copy : (g : FileId) → g.ino < inode_span → same_file p.file g ≡ false → copy_of (with_version (copy_adopted p (content_of (copy_of s p.file))) (wanted_pages p) s) g ≡ option_map (copy_for g) (held_version c (entries after) f.me g)
    other_copy g low other = row_other copy_key (copy_adopted p (content_of (copy_of s p.file))) (file_key g) s.copies (λ e. true_false (sym (keys_same p.file g narrow low e) ∙ other))
        ∙ (kept.copies.are g low ∙ sym (ap (λ (o : Option Stamp). option_map (copy_for g) (option_map (version_of c (entries after) g) o)) held_other ∙ versions_same c trace after versions g (held c (entries trace) f.me g) (λ t e. held_stands c (entries trace) (followed_rows c trace h) f.me g t e)))
      where
        held_other : held c (entries after) f.me g ≡ held c (entries trace) f.me g
        held_other = ap (λ (b : Bool). cond (b && (f.me == f.me)) (Some p.stamp) (held c (entries trace) f.me g)) other

    copies_adopted : CopiesAreHeld c after f.me (with_version (copy_adopted p (content_of (copy_of s p.file))) (wanted_pages p) s)
    copies_adopted = record { are = λ g low. over g low (same_file p.file g) refl; ascends = ascends_row copy_key (copy_adopted p (content_of (copy_of s p.file))) s.copies kept.copies.ascends }
      where
        over : (g : FileId) → g.ino < inode_span → (b : Bool) → same_file p.file g ≡ b → copy_of (with_version (copy_adopted p (content_of (copy_of s p.file))) (wanted_pages p) s) g ≡ option_map (copy_for g) (held_version c (entries after) f.me g)
        over g low true e = own_copy g (same_file_eq p.file g e)
        over g low false e = other_copy g low e

    -- what is remembered of it
    step_so : (o : Option FileCopy) → ((x : FileCopy) → o ≡ Some x → IsCopy c trace f.me p.file x) → AgreeBut (content_of o) k.version.content (wanted_pages p) → StepFact c after p.file (step_to (copy_adopted p under) (wanted_pages p) o)
    step_so None are a = versions.stands p.file p.stamp stands
    step_so (Some x) are a = differ_stays c trace after versions p.file x.stamp p.stamp (wanted_pages p) (record {
      earlier_stands = subst (Stands c trace p.file) (sym at) (are x refl).stands;
      later_stands = stands;
      agree = subst (λ (xs : List ℕ). AgreeBut xs (content_in (history c (entries trace)) p.file p.stamp) (wanted_pages p)) own_content (subst (λ (xs : List ℕ). AgreeBut x.content xs (wanted_pages p)) (ap (λ (v : HeldVersion). v.content) version_is) a);
    })
      where
        at : x.stamp ≡ (are x refl).stamp
        at = ap (λ (y : FileCopy). y.stamp) (are x refl).same

        own_content : x.content ≡ content_in (history c (entries trace)) p.file x.stamp
        own_content = ap (λ (y : FileCopy). y.content) (are x refl).same ∙ ap (content_in (history c (entries trace)) p.file) (sym at)

    pub store_adopted : StoreHeld c f after (with_version (copy_adopted p (content_of (copy_of s p.file))) (wanted_pages p) s)
    store_adopted = record {
      copies = copies_adopted;
      instances = record {
        instances = every_both (InstanceFact c trace f) (InstanceFact c after f) s.instances (λ i fact. instance_more c n told trace few h may_adopt stay f i tt fact) kept.instances.instances;
        apart = kept.instances.apart;
        has = has_more n told trace f s (λ z. z) kept.instances.has;
        steps = step_more c after rests.narrow p.file narrow (step_to (copy_adopted p under) (wanted_pages p) (copy_of s p.file)) (step_so (copy_of s p.file) (λ x e. own_copy_is c trace h f.me s kept.copies p.file narrow x e) (pulled_agree c trace rests f s kept p k complete fits)) s.steps
            (steps_stay c trace after versions s.steps kept.instances.steps);
      };
    }
