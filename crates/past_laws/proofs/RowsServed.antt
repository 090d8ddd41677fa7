-- The members of an epoch by both, and so the synchronization site of a group; and that it is or has been in the epoch.
use Rattle.std.proofs.Common.{◌≡◌, ℕ, zero, suc, ◌&&◌, ◌||◌, nat_lt, Bool, true, false, filter, replicate, take, Option, Some, None, refl, sym, ap, ◌∙◌}
use Rattle.std.specs.List.{find, list_any}
use Rattle.std.specs.Option.{option_map}
use Rattle.locus_ids.specs.Sizes.{sites_max}
use Rattle.locus_ids.specs.declared.config.Config.{Config}
use Rattle.locus_ids.specs.declared.sites.Members.{Members}
use Rattle.locus_ids.specs.declared.ids.EpochId.{EpochId}
use Rattle.tree_model.specs.Epochs.{members_of}
use Rattle.tree_model.specs.Folds.{Trace}
use Rattle.tree_model.specs.Packs.{all_sites, boot_in, has_pack, is_member, is_member_of, sync_site}
use Rattle.tree_model.specs.Working.{list_of}
use Rattle.promises.specs.of_lawful_trace.TreeRows.{has_joined_some, is_served}
use Rattle.promises.specs.Past.{Epoch, Past, epoch_at, is_number, sync_of, unformed}
use Rattle.promises.specs.After.{is_epoch}
use Rattle.promises.specs.Rows.{is_synced}
use Rattle.past_laws.specs.Agreement.{Agrees}
use Rattle.past_laws.proofs.Changing.{first_found, first_none}
use Rattle.past_laws.proofs.TreesLists.{first_only}

-- nobody is a member of an epoch that isn't there
none_boots : (place many : ℕ) → boot_in (record { boot = replicate many 0 }) (suc place) ≡ 0
none_boots place zero = refl
none_boots zero (suc many) = refl
none_boots (suc place) (suc many) = none_boots place many

no_member : (e : EpochId) (site : ℕ) → is_member (unformed e).members site ≡ false
no_member e zero = refl
no_member e (suc place) = ap (λ n. nat_lt 0 n) (none_boots place sites_max)

pub member_as : (c : Config) (before : Trace) (p : Past) (e : EpochId) (site : ℕ) → Agrees c before p → is_member (epoch_at p e).members site ≡ is_member_of (members_of before e) site
member_as c before p e site a = over (find (is_epoch e) p.epochs) refl
  where
    over : (o : Option Epoch) → find (is_epoch e) p.epochs ≡ o → is_member (epoch_at p e).members site ≡ is_member_of (members_of before e) site
    over None f = ap (λ (t : Epoch). is_member t.members site) (first_none (unformed e) (is_epoch e) p.epochs f) ∙ (no_member e site ∙ ap (λ (m : Option Members). is_member_of m site) (ap (option_map (λ (t : Epoch). t.members)) (sym f) ∙ a.epochs.members e))
    over (Some t) f = ap (λ (t : Epoch). is_member t.members site) (first_found (unformed e) (is_epoch e) p.epochs t f) ∙ ap (λ (m : Option Members). is_member_of m site) (ap (option_map (λ (t : Epoch). t.members)) (sym f) ∙ a.epochs.members e)

pub sync_as : (c : Config) (before : Trace) (p : Past) (e : EpochId) (group : ℕ) → Agrees c before p → sync_of c (epoch_at p e) group ≡ list_of (sync_site c group (members_of before e))
sync_as c before p e group a =
    ap (λ (q : ℕ → Bool). take 1 (filter q all_sites)) (λ i site. member_as c before p e site a i && has_pack c group site)
    ∙ first_only (λ site. is_member_of (members_of before e) site && has_pack c group site) all_sites

pub synced_as : (c : Config) (before : Trace) (p : Past) (e : EpochId) (group : ℕ) → Agrees c before p → is_served c before e group ≡ is_synced c (epoch_at p e) group
synced_as c before p e group a = over (sync_site c group (members_of before e)) ∙ sym (ap (list_any (is_number (epoch_at p e).joined)) (sync_as c before p e group a))
  where
    alone : (b : Bool) → b ≡ (b || false)
    alone true = refl
    alone false = refl

    over : (o : Option ℕ) → has_joined_some before e o ≡ list_any (is_number (epoch_at p e).joined) (list_of o)
    over None = refl
    over (Some site) = sym (a.epochs.joined e site) ∙ alone (is_number (epoch_at p e).joined site)
