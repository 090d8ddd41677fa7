-- An audit as a value, and what it says.
use Rattle.std.specs.Prelude.{ℕ, ◌≡◌, Bool, true, cond}
use Rattle.locus_ids.specs.declared.config.Config.{Config}
use Rattle.promises.specs.Past.{Past}
use Rattle.audit_laws.specs.Tidy.Tidy.{IsTidy}
use Rattle.audit_rules.specs.Consistent.{Audited, Sound, Broken}
use Rattle.trace_audit.specs.declared.verdict.Verdict.{Verdict}
use Rattle.trace_audit.specs.declared.verdict.Verdict.TheVariants as says

-- the cluster, and what is known of the records so far
pub record Auditing : Type 0 where
  pub config : Config
  pub state : Audited

abbrev pub verdict_of : Audited → Verdict
verdict_of (Sound last past) = says.Good
verdict_of Broken = says.Broken

-- what is known, where all is sound or not
abbrev pub known_so : Bool → ℕ → Past → Audited
known_so sound last past = cond sound (Sound last past) Broken

-- what is kept is tidy, where all is sound
abbrev pub IsKept : Bool → Config → Past → Type 0
IsKept sound c p = sound ≡ true → IsTidy c p
