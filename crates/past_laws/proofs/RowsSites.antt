-- The rows of sites: a site that may boot, stop, leave or join by the folds may by the past.
use Rattle.std.proofs.Common.{◌≡◌, ℕ, ◌==◌, nat_lt, not, true, filter, Option, Some, None, refl, sym, ap, ◌∙◌, ◌⊎◌, inl, inr}
use Rattle.std.proofs.lemmas.Slice.Eq.{bytes_eq-Decides}
use Rattle.std.specs.List.{find, list_all}
use Rattle.std.specs.Option.{is_none, option_map}
use Rattle.std.specs.Str.{bytes_eq}
use Rattle.locus_ids.specs.declared.config.Config.{Config}
use Rattle.locus_ids.specs.declared.sites.Members.{Members}
use Rattle.locus_ids.specs.declared.ids.EpochId.{EpochId}
use Rattle.trace_book.specs.declared.record.StopCause.{StopCause}
use Rattle.trace_book.specs.declared.record.StopCause.TheVariants as cause
use Rattle.trace_book.specs.declared.record.Record.TheVariants as rec
use Rattle.tree_model.specs.Epochs.{is_above_joined, is_epoch_below, is_in, last_joined, members_of}
use Rattle.tree_model.specs.Folds.{Trace}
use Rattle.tree_model.specs.Working.{list_of}
use Rattle.promises.specs.of_lawful_trace.SiteRows.{MayBoot, MayJoin, MayLeave, StopRow}
use Rattle.promises.specs.Past.{Epoch, Past, site_at}
use Rattle.promises.specs.After.{is_epoch}
use Rattle.promises.specs.Rows.{is_there, may_follow}
use Rattle.past_laws.specs.Agreement.{Agrees, is_of_cluster}
use Rattle.past_laws.proofs.Names.{both, epoch_own, none_some, number_own, some_same}
use Rattle.past_laws.proofs.Changing.{find_filter, only_one}
use Rattle.past_laws.proofs.Finding.{all_of_none, all_of_one}
use Rattle.past_laws.proofs.Sites.{of_cluster_there}

pub site_there : (c : Config) (before : Trace) (p : Past) (site : ℕ) → Agrees c before p → is_of_cluster c site ≡ true → is_there p site ≡ true
site_there c before p site a ours = of_cluster_there c p.sites site a.sites.numbers ours

pub row_up : (c : Config) (before : Trace) (p : Past) (site boot : ℕ) → Agrees c before p → is_of_cluster c site ≡ true → MayBoot c before site boot → may_follow c p (rec.Up site boot) ≡ true
row_up c before p site boot a ours may =
    let there = site_there c before p site a ours in
    both (is_there p site) _ there
    (both (not (site_at p site).up) _ (ap not (a.sites.up site there ∙ may.stopped)) (ap (λ n. nat_lt n boot) (a.sites.boot site there) ∙ may.above))

pub row_stopped : (c : Config) (before : Trace) (p : Past) (site : ℕ) (why : StopCause) → Agrees c before p → is_of_cluster c site ≡ true → StopRow c before site why → may_follow c p (rec.Stopped site why) ≡ true
row_stopped c before p site cause.Asked a ours may = a.sites.up site (site_there c before p site a ours) ∙ may.up
row_stopped c before p site cause.Fuse a ours may = site_there c before p site a ours
row_stopped c before p site cause.Fault a ours may = site_there c before p site a ours

pub row_leave : (c : Config) (before : Trace) (p : Past) (site : ℕ) (e : EpochId) → Agrees c before p → MayLeave before site e → may_follow c p (rec.Leave site e) ≡ true
row_leave c before p site e a may = ap (λ o. is_in o e) (a.sites.epoch site ∙ may.inside) ∙ epoch_own e

all_below : (o : Option EpochId) (e : EpochId) → is_above_joined o e ≡ true → list_all (λ last. is_epoch_below last e) (list_of o) ≡ true
all_below None e h = refl
all_below (Some last) e h = both (is_epoch_below last e) true h refl

-- who joined before has the same list
same_members : (c : Config) (before : Trace) (p : Past) (e : EpochId) (members : Members) → Agrees c before p → (members_of before e ≡ None) ⊎ (members_of before e ≡ Some members)
    → list_all (λ (t : Epoch). bytes_eq t.members.boot members.boot) (filter (is_epoch e) p.epochs) ≡ true
same_members c before p e members a same = over (find (is_epoch e) p.epochs) refl same
  where
    own : (t : Epoch) → find (is_epoch e) p.epochs ≡ Some t → members_of before e ≡ Some t.members
    own t f = sym (a.epochs.members e) ∙ ap (option_map (λ (x : Epoch). x.members)) f

    over : (o : Option Epoch) → find (is_epoch e) p.epochs ≡ o → (members_of before e ≡ None) ⊎ (members_of before e ≡ Some members) → list_all (λ (t : Epoch). bytes_eq t.members.boot members.boot) (filter (is_epoch e) p.epochs) ≡ true
    over None f h = all_of_none _ (filter (is_epoch e) p.epochs) (find_filter (is_epoch e) p.epochs f)
    over (Some t) f (inl h) = none_some t.members (sym h ∙ own t f)
    over (Some t) f (inr h) = all_of_one (λ (x : Epoch). bytes_eq x.members.boot members.boot) (filter (is_epoch e) p.epochs) t (only_one (is_epoch e) p.epochs t (a.epochs.once e) f)
        ((bytes_eq-Decides t.members.boot members.boot).1 (ap (λ (m : Members). m.boot) (some_same t.members members (sym (own t f) ∙ h))))

pub row_join : (c : Config) (before : Trace) (p : Past) (site : ℕ) (e : EpochId) (members : Members) → Agrees c before p → is_of_cluster c site ≡ true → MayJoin c before site e members → may_follow c p (rec.Join site e members) ≡ true
row_join c before p site e members a ours may =
    let there = site_there c before p site a ours in
    both (site_at p site).up _ (a.sites.up site there ∙ may.up)
    (both (is_none (site_at p site).epoch) _ (ap (λ (o : Option EpochId). is_none o) (a.sites.epoch site ∙ may.outside))
    (both _ _ (ap not (a.epochs.joined e site ∙ may.new))
    (both _ _ (ap (λ o. list_all (λ last. is_epoch_below last e) (list_of o)) (a.sites.joined site) ∙ all_below (last_joined before site) e may.later)
    (both _ _ (same_members c before p e members a may.same)
    (ap (λ n. n == (site_at p site).boot) (may.member ∙ sym (a.sites.boot site there)) ∙ number_own (site_at p site).boot)))))
