-- What of a site's view its place in epochs is, and what the rest of the site does when it leaves an epoch or joins one.
use Rattle.std.specs.Prelude.{ℕ, Bool, false, ◌==◌, ◌||◌, not, cond, List, [], ◌∷◌, map, filter, Option, None, Some}
use Rattle.locus_ids.specs.declared.ids.EpochId.{EpochId}
use Rattle.locus_ids.specs.declared.sites.Members.{Members}
use Rattle.locus_ids.specs.declared.sites.Links.{Links}
use Rattle.locus_ids.specs.declared.config.Config.{Config}
use Rattle.locus_ids.specs.declared.sites.Sites.{Sites}
use Rattle.wire_messages.specs.declared.body.Body.TheVariants as body
use Rattle.trace_book.specs.Same.{same_epoch}
use Rattle.role_steps.specs.Views.{boot_in, Users, SiteView, Outcome, quiet, sends, and_then, within}
use Rattle.role_steps.specs.Using.{users_leave}
use Rattle.role_steps.specs.Reports.{new_table}
use Rattle.role_steps.specs.Epochs.{with_users, forming, promises, is_epoch_below, own_groups, is_sync_site, reports_all, passed_over, unanswered, chosen_set, chosen_members, may_install, is_in}
use Rattle.role_steps.specs.declared.rounds.InEpoch.{InEpoch}
use Rattle.role_steps.specs.declared.rounds.Round.{Round}
use Rattle.merge_protocol.specs.declared.joining.InstallAnswer.{InstallAnswer}
use Rattle.merge_protocol.specs.declared.joining.InstallAnswer.TheVariants as install

pub record EpochPart : Type 0 where
  pub boot : ℕ
  pub promised : EpochId
  pub installed : Bool
  pub round : Option Round
  pub epoch : Option InEpoch
  pub installs : List ℕ
  pub reports : List ℕ

abbrev pub epoch_part : SiteView → EpochPart
epoch_part v = record { boot = v.boot; promised = v.promised; installed = v.installed; round = v.round; epoch = v.epoch; installs = v.installs; reports = v.reports }

-- the view with this part in place of its own
abbrev pub with_part : EpochPart → SiteView → SiteView
with_part e v = record v { boot = e.boot; promised = e.promised; installed = e.installed; round = e.round; epoch = e.epoch; installs = e.installs; reports = e.reports }

abbrev pub no_users : Users
no_users = record { calls = 0; serials = 0; waiting = []; instances = []; descriptors = []; hopeless = []; cache = [] }

-- a site that has nothing but its place in epochs
abbrev pub alone : EpochPart → SiteView
alone e = record {
  boot = e.boot;
  promised = e.promised;
  installed = e.installed;
  round = e.round;
  epoch = e.epoch;
  installs = e.installs;
  reports = e.reports;
  tables = [];
  store = record { copies = []; instances = []; steps = [] };
  users = no_users;
  pulls = [];
}

-- ---- leaving ----

abbrev pub epoch_named : Option InEpoch → Option EpochId
epoch_named None = None
epoch_named (Some e) = Some e.id

-- the other roles drop what they have of the epoch that the site leaves, and waiting calls are answered
abbrev pub dropped : SiteView → SiteView
dropped v = record v { tables = []; store = record { copies = v.store.copies; instances = []; steps = [] }; pulls = [] }

abbrev pub rest_leaves : ℕ → Option EpochId → SiteView → Outcome SiteView
rest_leaves me None v = quiet v
rest_leaves me (Some id) v = within (with_users (dropped v)) (users_leave me v.boot id v.users)

-- the epoch that is left at a poll: a greater id makes the site leave
abbrev pub left_at_poll : EpochId → EpochPart → Option EpochId
left_at_poll id e = cond (is_epoch_below e.promised id) (epoch_named e.epoch) None

abbrev pub is_round : EpochId → Option Round → Bool
is_round id None = false
is_round id (Some r) = same_epoch r.id id

-- whom a refusal of this id makes the site poll again: the polled sites of the undecided round, where it is of that one
abbrev pub polled_again : EpochId → Option Round → Option Links
polled_again id None = None
polled_again id (Some r) = cond (same_epoch r.id id) (Some r.polled) None

-- the site promises the id of a poll, and says so to its initiator
abbrev pub promises_to : ℕ → Sites → ℕ → ℕ → EpochId → SiteView → Outcome SiteView
promises_to me reach from from_boot id v = and_then (promises me id reach v) (λ now. sends (forming me now.boot id from from_boot (body.Promise reach) ∷ []) now)

-- the epoch that is left at a refusal: one of the undecided round makes the site begin again
abbrev pub left_at_refuse : EpochId → EpochPart → Option EpochId
left_at_refuse id e = cond (is_round id e.round) (epoch_named e.epoch) None

-- ---- joining ----

-- the other roles make their tables and report their packs
abbrev pub rest_joins : Config → ℕ → EpochId → Members → SiteView → Outcome SiteView
rest_joins c me id members v = reports_all c me (record { id = id; members = members }) (record v { tables = map new_table (filter (is_sync_site c me members) (own_groups c me)) })

-- what an install is answered
abbrev pub install_answer : ℕ → EpochId → Members → EpochPart → InstallAnswer
install_answer me id members e = cond (may_install me id members (alone e)) install.Joins (cond (is_in id e.epoch) install.Again install.Nothing)

-- the site is a member, and another one than this
abbrev pub is_other : ℕ → Members → ℕ → Bool
is_other me members s = not ((boot_in members.boot s == 0) || (s == me))

-- ---- deciding ----

abbrev pub passed_round : Links → Option Round → Option Round
passed_round links None = None
passed_round links (Some r) = Some (passed_over links r)

-- polled sites that are no longer connected are passed over
abbrev pub passed_part : Links → EpochPart → EpochPart
passed_part links e = record e { round = passed_round links e.round }

abbrev pub decided : ℕ → Links → ℕ → Round → List ℕ → Option InEpoch
decided me links boot r [] = Some (record { id = r.id; members = chosen_members me boot r (chosen_set me links r) })
decided me links boot r (s ∷ ss) = None

-- the epoch that the round decides, once no answer is missing
abbrev pub decision : ℕ → Links → ℕ → Option Round → Option InEpoch
decision me links boot None = None
decision me links boot (Some r) = decided me links boot r (unanswered r)
