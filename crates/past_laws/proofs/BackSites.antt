-- The rows of sites and adoptions let nothing through that the folds refuse.
use Rattle.std.proofs.Common.{◌≡◌, ℕ, ◌||◌, nat_lt, not, Bool, true, false, cond, List, [], ◌∷◌, filter, Option, Some, None, refl, sym, ap, subst, ◌∙◌, ◌⊎◌, inl, inr}
use Rattle.std.proofs.lemmas.Slice.Eq.{bytes_eq-Decides}
use Rattle.std.specs.List.{find, list_any, list_all}
use Rattle.std.specs.Option.{is_none, option_map}
use Rattle.std.specs.Str.{bytes_eq}
use Rattle.locus_ids.specs.Sites.{has}
use Rattle.locus_ids.specs.declared.config.Config.{Config}
use Rattle.locus_ids.specs.declared.sites.Members.{Members}
use Rattle.locus_ids.specs.declared.ids.EpochId.{EpochId}
use Rattle.locus_ids.specs.declared.ids.FileId.{FileId}
use Rattle.locus_ids.specs.declared.ids.Stamp.{Stamp}
use Rattle.commit_graph.specs.declared.history.Version.{Version}
use Rattle.commit_graph.specs.Versions.{is_proper_ancestor, same_file}
use Rattle.trace_book.specs.declared.record.StopCause.{StopCause}
use Rattle.trace_book.specs.declared.record.StopCause.TheVariants as cause
use Rattle.trace_book.specs.declared.record.Record.TheVariants as rec
use Rattle.tree_model.specs.Epochs.{epoch_of, is_above_joined, is_epoch_below, is_in, members_of}
use Rattle.tree_model.specs.Folds.{Trace}
use Rattle.tree_model.specs.Histories.{held as held_by}
use Rattle.tree_model.specs.Packs.{boot_in}
use Rattle.tree_model.specs.State.{has_stamp}
use Rattle.tree_model.specs.Working.{list_of}
use Rattle.promises.specs.of_lawful_trace.SiteRows.{MayBoot, MayJoin, MayLeave, StopRow}
use Rattle.promises.specs.of_lawful_trace.TreeRows.{MayAdopt, is_above, is_stored_at}
use Rattle.promises.specs.Past.{Copy, Epoch, Past, candidates, epoch_at, is_number, making_of, site_at, stamp_in, unformed}
use Rattle.promises.specs.After.{is_epoch}
use Rattle.promises.specs.Rows.{is_above_held, is_there, may_adopt, may_follow}
use Rattle.past_laws.specs.Agreement.{Agrees, is_of_cluster}
use Rattle.past_laws.proofs.Names.{both_parts, epoch_test, false_true, number_eq, some_same}
use Rattle.past_laws.proofs.Changing.{Finds, any_finds, first_found, only_one}
use Rattle.past_laws.proofs.Epochs.{is_in_some}
use Rattle.past_laws.proofs.Finding.{found_only}
use Rattle.past_laws.proofs.MadeKnown.{candidate_made, candidates_alike, known_at}
use Rattle.past_laws.proofs.RowsAdopt.{shut_alike}
use Rattle.past_laws.proofs.RowsSites.{site_there}

pub not_so : (b : Bool) → not b ≡ true → b ≡ false
not_so true h = sym h
not_so false h = refl

pub back_up : (c : Config) (before : Trace) (p : Past) (site boot : ℕ) → Agrees c before p → may_follow c p (rec.Up site boot) ≡ true → MayBoot c before site boot
back_up c before p site boot a h =
    let parts = both_parts (is_there p site) _ h in
    let more = both_parts (not (site_at p site).up) _ parts.1 in
    record {
      stopped = sym (a.sites.up site parts.0) ∙ not_so (site_at p site).up more.0;
      above = ap (λ n. nat_lt n boot) (sym (a.sites.boot site parts.0)) ∙ more.1;
    }

pub back_stopped : (c : Config) (before : Trace) (p : Past) (site : ℕ) (why : StopCause) → Agrees c before p → is_of_cluster c site ≡ true → may_follow c p (rec.Stopped site why) ≡ true → StopRow c before site why
back_stopped c before p site cause.Asked a ours h = record { up = sym (a.sites.up site (site_there c before p site a ours)) ∙ h }
back_stopped c before p site cause.Fuse a ours h = tt
back_stopped c before p site cause.Fault a ours h = tt

pub back_leave : (c : Config) (before : Trace) (p : Past) (site : ℕ) (e : EpochId) → Agrees c before p → may_follow c p (rec.Leave site e) ≡ true → MayLeave before site e
back_leave c before p site e a h = record { inside = sym (a.sites.epoch site) ∙ is_in_some (site_at p site).epoch e h }

none_is : (o : Option EpochId) → is_none o ≡ true → o ≡ None
none_is None h = refl
none_is (Some e) h = false_true h

above_all : (o : Option EpochId) (e : EpochId) → list_all (λ last. is_epoch_below last e) (list_of o) ≡ true → is_above_joined o e ≡ true
above_all None e h = refl
above_all (Some last) e h = (both_parts (is_epoch_below last e) _ h).0

-- every member that joined it before has this list
members_back : (c : Config) (before : Trace) (p : Past) (e : EpochId) (members : Members) → Agrees c before p → list_all (λ (t : Epoch). bytes_eq t.members.boot members.boot) (filter (is_epoch e) p.epochs) ≡ true
    → (members_of before e ≡ None) ⊎ (members_of before e ≡ Some members)
members_back c before p e members a h = over (find (is_epoch e) p.epochs) refl
  where
    over : (o : Option Epoch) → find (is_epoch e) p.epochs ≡ o → (members_of before e ≡ None) ⊎ (members_of before e ≡ Some members)
    over None f = inl (sym (a.epochs.members e) ∙ ap (option_map (λ (x : Epoch). x.members)) f)
    over (Some t) f = inr (sym (a.epochs.members e) ∙ (ap (option_map (λ (x : Epoch). x.members)) f ∙ ap (λ bs. Some (record { boot = bs }))
        ((bytes_eq-Decides t.members.boot members.boot).0 (both_parts (bytes_eq t.members.boot members.boot) true (subst (λ (ts : List Epoch). list_all (λ (x : Epoch). bytes_eq x.members.boot members.boot) ts ≡ true) (only_one (is_epoch e) p.epochs t (a.epochs.once e) f) h)).0)))

pub back_join : (c : Config) (before : Trace) (p : Past) (site : ℕ) (e : EpochId) (members : Members) → Agrees c before p → is_of_cluster c site ≡ true → may_follow c p (rec.Join site e members) ≡ true → MayJoin c before site e members
back_join c before p site e members a ours h =
    let there = site_there c before p site a ours in
    let up = both_parts (site_at p site).up _ h in
    let outside = both_parts (is_none (site_at p site).epoch) _ up.1 in
    let new = both_parts (not (is_number (epoch_at p e).joined site)) _ outside.1 in
    let later = both_parts (list_all (λ last. is_epoch_below last e) (list_of (site_at p site).joined)) _ new.1 in
    let same = both_parts (list_all (λ (t : Epoch). bytes_eq t.members.boot members.boot) (filter (is_epoch e) p.epochs)) _ later.1 in
    record {
      up = sym (a.sites.up site there) ∙ up.0;
      outside = sym (a.sites.epoch site) ∙ none_is (site_at p site).epoch outside.0;
      new = sym (a.epochs.joined e site) ∙ not_so (is_number (epoch_at p e).joined site) new.0;
      later = ap (λ o. is_above_joined o e) (sym (a.sites.joined site)) ∙ above_all (site_at p site).joined e later.0;
      same = members_back c before p e members a same.0;
      member = number_eq (boot_in members site) (site_at p site).boot same.1 ∙ a.sites.boot site there;
    }

-- Adoptions.

above_back : (h : List Version) (f : FileId) (stamp : Stamp) (vs : List Copy) → list_all (λ (v : Copy). not (same_file v.file f) || is_proper_ancestor h f v.stamp stamp) vs ≡ true → is_above h f (stamp_in vs f) stamp ≡ true
above_back h f stamp [] k = refl
above_back h f stamp (v ∷ vs) k =
    let parts = both_parts (not (same_file v.file f) || is_proper_ancestor h f v.stamp stamp) _ k in
    over (same_file v.file f) parts.0 (above_back h f stamp vs parts.1)
  where
    over : (b : Bool) → (not b || is_proper_ancestor h f v.stamp stamp) ≡ true → is_above h f (stamp_in vs f) stamp ≡ true → is_above h f (option_map (λ (w : Copy). w.stamp) (cond b (Some v) (find (λ (w : Copy). same_file w.file f) vs))) stamp ≡ true
    over true own later = own
    over false own later = later

pub back_adopt : (c : Config) (before : Trace) (p : Past) (f : FileId) (site : ℕ) (stamp : Stamp) → Agrees c before p → is_of_cluster c site ≡ true → may_follow c p (rec.Adopt f site stamp) ≡ true → MayAdopt c before f site stamp
back_adopt c before p f site stamp a ours h = over (any_finds (may_adopt p f site stamp) p.epochs h)
  where
    home : (t : Epoch) → may_adopt p f site stamp t ≡ true → epoch_of before site ≡ Some t.id
    home t k = sym (a.sites.epoch site) ∙ is_in_some (site_at p site).epoch t.id (both_parts (is_in (site_at p site).epoch t.id) _ k).0

    over : Finds (may_adopt p f site stamp) p.epochs → MayAdopt c before f site stamp
    over it =
        let t = epoch_at p it.one.id in
        let same : epoch_at p it.one.id ≡ it.one = first_found (unformed it.one.id) (is_epoch it.one.id) p.epochs it.one
        (found_only (is_epoch it.one.id) (may_adopt p f site stamp) (λ x k. epoch_test x.id it.one.id (some_same x.id it.one.id (sym (home x k) ∙ home it.one it.passes))) p.epochs it.one (a.epochs.once it.one.id) it.found) in
        let passes : may_adopt p f site stamp (epoch_at p it.one.id) ≡ true = subst (λ (x : Epoch). may_adopt p f site stamp x ≡ true) (sym same) it.passes in
        let inside = both_parts (is_in (site_at p site).epoch t.id) _ passes in
        let known = both_parts (has_stamp (candidates t f) stamp) _ inside.1 in
        let for = both_parts (has (making_of p f).set site) _ known.1 in
        let above = both_parts (is_above_held p site f stamp) _ for.1 in
        record {
          epoch = it.one.id;
          inside = home it.one it.passes;
          known = ap (λ ss. has_stamp ss stamp) (candidates_alike c before p it.one.id f a) ∙ known.0;
          for = ap (λ s. has s site) (sym (a.trees.set f (candidate_made p.files f stamp t.known known.0 (known_at p it.one.id a.made)))) ∙ for.0;
          above = ap (λ g. is_above g f (held_by c before site f) stamp) (sym a.epochs.history) ∙ (ap (λ o. is_above p.history f o stamp) (sym (a.sites.held site (site_there c before p site a ours) f)) ∙ above_back p.history f stamp (site_at p site).held above.0);
          shut = ap (list_any (is_stored_at site f)) (sym (a.trees.opened it.one.id f.group)) ∙ (shut_alike site f t.opened ∙ not_so _ above.1);
        }
