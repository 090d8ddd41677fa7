-- After a trace whose records come so, what may follow by the value comes by the row of the folds.
use Rattle.std.proofs.Common.{◌≡◌, ℕ, true, [], ◌∷◌, Some, refl}
use Rattle.std.specs.List.{find}
use Rattle.locus_ids.specs.declared.config.Config.{Config}
use Rattle.locus_ids.specs.declared.ids.EpochId.{EpochId}
use Rattle.locus_ids.specs.declared.ids.Serial.{Serial}
use Rattle.trace_book.specs.declared.entry.Entry.{Entry}
use Rattle.trace_book.specs.declared.record.Record.{Record}
use Rattle.trace_book.specs.declared.record.Record.TheVariants as rec
use Rattle.tree_model.specs.Folds.{Trace}
use Rattle.promises.specs.of_lawful_trace.TreeRows.{granted_group}
use Rattle.promises.specs.Past.{Instance, Past, epoch_at, is_named}
use Rattle.promises.specs.Rows.{may_follow}
use Rattle.past_laws.specs.Agreement.{Agrees, past, speaks_of_sites}
use Rattle.past_laws.specs.Along.{ComesSo, EachComesSo, IsNamed, is_judged_alike, tells_changed}
use Rattle.past_laws.specs.Due.{last_of}
use Rattle.past_laws.proofs.Agreeing.{all_agrees, last_same}
use Rattle.past_laws.proofs.BackActs.{AnsweredAskNothing, back_act, back_release}
use Rattle.past_laws.proofs.BackAnswers.{Answers, back_answer}
use Rattle.past_laws.proofs.BackCalls.{back_look}
use Rattle.past_laws.proofs.BackCommits.{back_commit}
use Rattle.past_laws.proofs.BackGroups.{group_stands}
use Rattle.past_laws.proofs.BackMends.{MendsAreOfSystem, back_call, system_step}
use Rattle.past_laws.proofs.BackOpens.{back_grant, back_refuse, back_start}
use Rattle.past_laws.proofs.BackOver.{answered_silent}
use Rattle.past_laws.proofs.BackSites.{back_adopt, back_join, back_leave, back_stopped, back_up, not_so}

-- Mends that wait are of the system, along such a trace.
mends_along : (c : Config) (trace : Trace) → EachComesSo c trace → MendsAreOfSystem trace
mends_along c [] k = refl
mends_along c (r ∷ before) k = system_step c r.what before k.0.row (mends_along c before k.1)

-- Open instances are of the groups in which their names were granted.
abbrev GroupsStand : Trace → Past → Type 0
GroupsStand before p = (e : EpochId) (i : Serial) (x : Instance) → find (is_named i) (epoch_at p e).opened ≡ Some x → x.grant.file.group ≡ granted_group before e i

comes_so : (c : Config) → IsNamed c → (line : ℕ) (w : Record) (before : Trace) (p : Past) → Agrees c before p → p.last ≡ last_of before → MendsAreOfSystem before → AnsweredAskNothing c before → GroupsStand before p → is_judged_alike w ≡ true → speaks_of_sites c w ≡ true → may_follow c p w ≡ true → ComesSo c before (record { line = line; what = w })
comes_so c named line (rec.Up site boot) before p a last system silent groups alike ours h = record { row = back_up c before p site boot a h; sites = ours; given = tt; due = tt }
comes_so c named line (rec.Stopped site why) before p a last system silent groups alike ours h = record { row = back_stopped c before p site why a ours h; sites = ours; given = tt; due = tt }
comes_so c named line (rec.Leave site e) before p a last system silent groups alike ours h = record { row = back_leave c before p site e a h; sites = ours; given = tt; due = tt }
comes_so c named line (rec.Join site e members) before p a last system silent groups alike ours h = record { row = back_join c before p site e members a ours h; sites = ours; given = tt; due = tt }
comes_so c named line (rec.Start e group copies) before p a last system silent groups alike ours h = record { row = back_start c before p e group copies a h; sites = ours; given = tt; due = tt }
comes_so c named line (rec.Accept site process id words) before p a last system silent groups alike ours h = record { row = back_call c before p site process id words a system ours h; sites = ours; given = tt; due = tt }
comes_so c named line (rec.Look e id request f w result) before p a last system silent groups alike ours h = record { row = back_look c before p e id request f w result a h; sites = ours; given = tt; due = tt }
comes_so c named line (rec.Grant e id request i m f stamp ss) before p a last system silent groups alike ours h = record { row = back_grant c before p e id request i m f stamp ss named.sites a h; sites = ours; given = tt; due = tt }
comes_so c named line (rec.Refuse e id request i m f why) before p a last system silent groups alike ours h = record { row = back_refuse c before p e id request i m f why named.sites a h; sites = ours; given = tt; due = tt }
comes_so c named line (rec.Act e i n o result) before p a last system silent groups alike ours h = record { row = back_act c before p e i n o result a silent (groups e i) h; sites = ours; given = tt; due = tt }
comes_so c named line (rec.Release e i f stamp) before p a last system silent groups alike ours h = record { row = back_release c before p e i f stamp a silent h; sites = ours; given = tt; due = tt }
comes_so c named line (rec.Commit f site stamp parents content) before p a last system silent groups alike ours h = record { row = back_commit c before p f site stamp parents content a h; sites = ours; given = tt; due = tt }
comes_so c named line (rec.Adopt f site stamp) before p a last system silent groups alike ours h = record { row = back_adopt c before p f site stamp a ours h; sites = ours; given = tt; due = tt }
comes_so c named line (rec.Answer site process id r) before p a last system silent groups alike ours h =
    let it : Answers c before site process id r = back_answer c before p site process id r a last (not_so (tells_changed r) alike) h in
    record { row = it.row; sites = ours; given = it.given; due = it.due }
comes_so c named line w before p a last system silent groups alike ours h = record { row = tt; sites = ours; given = tt; due = tt }

pub judged_alike : (c : Config) → IsNamed c → (r : Entry) (before : Trace) → EachComesSo c before → is_judged_alike r.what ≡ true → speaks_of_sites c r.what ≡ true → may_follow c (past c before) r.what ≡ true → ComesSo c before r
judged_alike c named r before k alike ours h = comes_so c named r.line r.what before (past c before) (all_agrees c named before k) (last_same c before) (mends_along c before k) (answered_silent c named before k) (group_stands c named before k) alike ours h
