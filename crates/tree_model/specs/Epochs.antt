-- Which sites run, with which boot number, and which epoch each is in.
use Rattle.std.specs.Prelude.{ℕ, ◌+◌, ◌==◌, Bool, true, false, not, ◌&&◌, ◌||◌, Option, None, Some, cond, nat_lt}
use Rattle.locus_ids.specs.declared.sites.Members.{Members}
use Rattle.locus_ids.specs.declared.ids.EpochId.{EpochId}
use Rattle.locus_ids.specs.declared.config.Config.{Config}
use Rattle.dir_reconcile.specs.of_trace_book.Same.{same_epoch}
use Rattle.dir_reconcile.specs.of_trace_book.declared.record.Record.{Record}
use Rattle.dir_reconcile.specs.of_trace_book.declared.record.Record.TheVariants.{Up, Stopped, Leave, Join, Accept}
use Rattle.tree_model.specs.Folds.{Trace, over}

-- the site runs from the start: in each cluster all do
abbrev pub starts_up : Config → ℕ → Bool
starts_up c site = true

abbrev pub up_after : Record → ℕ → Bool → Bool
up_after (Up s boot) site old = (s == site) || old
up_after (Stopped s cause) site old = not (s == site) && old
up_after _ site old = old

-- the site runs: from the start or its boot to its stop
abbrev pub is_up : Config → Trace → ℕ → Bool
is_up c trace site = over (starts_up c site) (λ r before old. up_after r.what site old) trace

abbrev pub boot_after : Record → ℕ → ℕ → ℕ
boot_after (Up s boot) site old = cond (s == site) boot old
boot_after _ site old = old

-- the boot number of a site: 1, then that of its last boot
abbrev pub boot_of : Trace → ℕ → ℕ
boot_of trace site = over 1 (λ r before old. boot_after r.what site old) trace

abbrev pub epoch_after : Record → ℕ → Option EpochId → Option EpochId
epoch_after (Join s epoch members) site old = cond (s == site) (Some epoch) old
epoch_after (Leave s epoch) site old = cond (s == site) None old
epoch_after (Stopped s cause) site old = cond (s == site) None old
epoch_after (Up s boot) site old = cond (s == site) None old
epoch_after _ site old = old

-- the epoch that a site is in
abbrev pub epoch_of : Trace → ℕ → Option EpochId
epoch_of trace site = over None (λ r before old. epoch_after r.what site old) trace

-- the site is in this epoch
abbrev pub is_in : Option EpochId → EpochId → Bool
is_in None e = false
is_in (Some now) e = same_epoch now e

abbrev pub joined_after : Record → ℕ → EpochId → Bool → Bool
joined_after (Join s epoch members) site e old = (s == site) && same_epoch epoch e || old
joined_after _ site e old = old

-- the site is or has been in the epoch
abbrev pub has_joined : Trace → ℕ → EpochId → Bool
has_joined trace site e = over false (λ r before old. joined_after r.what site e old) trace

abbrev pub last_joined_after : Record → ℕ → Option EpochId → Option EpochId
last_joined_after (Join s epoch members) site old = cond (s == site) (Some epoch) old
last_joined_after (Up s boot) site old = cond (s == site) None old
last_joined_after _ site old = old

-- the epoch that the site joined last in its boot
abbrev pub last_joined : Trace → ℕ → Option EpochId
last_joined trace site = over None (λ r before old. last_joined_after r.what site old) trace

-- epochs are ordered by number, then site, then boot
abbrev pub is_epoch_below : EpochId → EpochId → Bool
is_epoch_below a b = nat_lt a.number b.number || ((a.number == b.number) && (nat_lt a.site b.site || ((a.site == b.site) && nat_lt a.boot b.boot)))

abbrev pub is_above_joined : Option EpochId → EpochId → Bool
is_above_joined None e = true
is_above_joined (Some last) e = is_epoch_below last e

abbrev pub members_after : Record → EpochId → Option Members → Option Members
members_after (Join s epoch members) e old = cond (same_epoch epoch e) (Some members) old
members_after _ e old = old

-- the members of an epoch, by the records of those that joined it
abbrev pub members_of : Trace → EpochId → Option Members
members_of trace e = over None (λ r before old. members_after r.what e old) trace

abbrev pub calls_after : Record → ℕ → ℕ → ℕ
calls_after (Accept s process call words) site old = cond (s == site) (old + 1) old
calls_after (Up s boot) site old = cond (s == site) 0 old
calls_after _ site old = old

-- how many calls the site has accepted in its boot, mends included
abbrev pub calls_accepted : Trace → ℕ → ℕ
calls_accepted trace site = over 0 (λ r before old. calls_after r.what site old) trace
