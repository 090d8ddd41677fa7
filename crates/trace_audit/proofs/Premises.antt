-- What the rows and the tables of an audit rest on, by what is true of a tidy past.
use Rattle.std.proofs.Common.{ℕ, ◌≡◌, ◌≤◌, Bool, true, false, ◌&&◌, length, filter, Option, Some, refl, sym, subst, ◌∙◌}
use Rattle.std.specs.List.{find, list_any}
use Rattle.locus_ids.specs.declared.config.Config.{Config}
use Rattle.locus_ids.specs.declared.ids.CallId.{CallId}
use Rattle.locus_ids.specs.declared.ids.EpochId.{EpochId}
use Rattle.locus_ids.specs.declared.ids.FileId.{FileId}
use Rattle.locus_ids.specs.declared.ids.Mode.{Mode}
use Rattle.locus_ids.specs.declared.ids.Serial.{Serial}
use Rattle.locus_ids.specs.declared.ids.Stamp.{Stamp}
use Rattle.trace_book.specs.declared.record.Record.TheVariants as rec
use Rattle.promises.specs.Past.{Past, Epoch, Instance, acts, ends, epoch_at, is_named, unformed}
use Rattle.promises.specs.Rows.{may_follow}
use Rattle.promises.specs.After.{is_epoch}
use Rattle.plain_facts.proofs.Tests.{and_first, and_second}
use Rattle.past_laws.proofs.CallsLists.{each_found}
use Rattle.past_laws.proofs.Changing.{any_finds, Finds}
use Rattle.past_laws.proofs.Finding.{found_only}
use Rattle.past_laws.proofs.Names.{false_true}
use Rattle.audit_laws.specs.Tidy.Tidy.{IsTidy}
use Rattle.audit_laws.specs.Tidy.Users.{HasTurns}
use Rattle.audit_laws.proofs.Tidy.Acting.{few_act, few_end}
use Rattle.audit_laws.proofs.Tidy.Lists.{each_first}
use Rattle.audit_laws.proofs.Tidy.Steps.{grants_unopened_there}
use Rattle.audit_laws.proofs.Tidy.TiesParts.{epoch_id}
use Rattle.audit_laws.proofs.Tidy.TurnsNext.{TurnsStand}
use Rattle.audit_rows.specs.of_audit_told_calls.of_audit_epochs.Places.{has_open}

-- no two calls end one instance
pub ends_once : (c : Config) (p : Past) → IsTidy c p → (e : EpochId) (x : Instance) → length (filter (ends e x) p.calls) ≤ 1
ends_once c p tidy e x = few_end p e x tidy.calls tidy.users

-- no two calls do one operation of an open instance
pub acts_once : (c : Config) (p : Past) → IsTidy c p → (e : EpochId) (i : Serial) (n : ℕ) (x : Instance) → find (is_named i) (epoch_at p e).opened ≡ Some x → length (filter (acts e x n) p.calls) ≤ 1
acts_once c p tidy e i n x named = few_act p.sites p.calls e x n tidy.calls (subst (λ (d : EpochId). HasTurns p.calls d x) (epoch_id p e) turns)
  where
    turns : HasTurns p.calls (epoch_at p e).id x
    turns = (each_found (HasTurns p.calls (epoch_at p e).id) (is_named i) (epoch_at p e).opened x named (each_first (TurnsStand p.calls) (unformed e) (is_epoch e) p.epochs tt tidy.users.turns)).0

-- what is granted has no open instance yet
pub grants_new : (c : Config) (p : Past) (e : EpochId) (id : CallId) (request : ℕ) (i : Serial) (m : Mode) (f : FileId) (stamp : Option Stamp) (ss : ℕ) → IsTidy c p → may_follow c p (rec.Grant e id request i m f stamp ss) ≡ true → has_open e i p.epochs ≡ false
grants_new c p e id request i m f stamp ss tidy may = at (has_open e i p.epochs) refl
  where
    is_there : Epoch → Bool
    is_there t = is_epoch e t && list_any (is_named i) t.opened

    none : Finds is_there p.epochs → false ≡ true
    none it = sym (grants_unopened_there c p e id request i m f stamp ss tidy may it.one (found_only (is_epoch e) is_there (λ t g. and_first (is_epoch e t) _ g) p.epochs it.one (tidy.epochs.once e) it.found)) ∙ and_second (is_epoch e it.one) _ it.passes

    at : (b : Bool) → has_open e i p.epochs ≡ b → b ≡ false
    at true h = false_true (none (any_finds is_there p.epochs h))
    at false h = refl
