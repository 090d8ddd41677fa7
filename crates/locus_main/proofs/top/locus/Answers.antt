use Rattle.std.proofs.Common.{ℕ, Err, ap, refl, ◌∙◌, inl, inr}
use Rattle.std.proofs.lemmas.Bool.{false≢true}
use Rattle.the_run.specs.Runs.{run}
use Rattle.audited_runs.specs.of_headline_laws.TheRun.{TheRun}
use Rattle.audited_runs.proofs.of_headline_laws.Whole.{the_run}
use Rattle.locus_main.proofs.Keeps.{keeps_all, command_runs}
use Rattle.the_run.specs.Commands.{load_lines, load_text}
use Rattle.generated_load.specs.Draws.{draws_of}
use Rattle.command_words.specs.declared.command.Command.TheVariants.{Run, Tree, Audit, Make}
use Rattle.input_run.specs.Inputs.Input.{Schedule, Calls}
use Rattle.input_run.specs.Promises.{LoadPromises}
use Rattle.locus_main.proofs.Audits.{no_memory}
use Rattle.input_run.proofs.Complete.{for_memory}
use Rattle.input_run.proofs.Loads.{no_load}
use Rattle.input_run.proofs.Runs.{Nothing-front}
use Rattle.locus_main.proofs.Words.{for_load, not_another, run_is_no_tree, run_is_no_load, tree_is_no_run, tree_is_no_load, load_is_no_run, load_is_no_tree, audit_is_no_run, audit_is_no_tree, audit_is_no_load, run_is_no_audit, tree_is_no_audit, load_is_no_audit, one_command, read_as, few_events}
use Rattle.locus_main.proofs.top.locus.Goals as goal

-- ---- run ----

pub returns-in-Ok-Run-clause-run : goal.returns-in-Ok-Run-clause-run
returns-in-Ok-Run-clause-run g c = λ is. c.run.ensures.promises

pub returns-in-Ok-Run-clause-tree : goal.returns-in-Ok-Run-clause-tree
returns-in-Ok-Run-clause-tree g c = λ is. not_another c.args.words.now Run Tree run_is_no_tree (read_as c.args.words.now _ Run c.in-Ok-Run.field-0-is c.in-Ok-Run.ensures.command) is

pub returns-in-Ok-Run-clause-make : goal.returns-in-Ok-Run-clause-make
returns-in-Ok-Run-clause-make g c = λ number events is. not_another c.args.words.now Run (Make number events) (run_is_no_load number events) (read_as c.args.words.now _ Run c.in-Ok-Run.field-0-is c.in-Ok-Run.ensures.command) is

pub returns-in-Ok-Run-clause-audit : goal.returns-in-Ok-Run-clause-audit
returns-in-Ok-Run-clause-audit g c = λ is. not_another c.args.words.now Run Audit run_is_no_audit (read_as c.args.words.now _ Run c.in-Ok-Run.field-0-is c.in-Ok-Run.ensures.command) is

pub returns-in-Ok-Run-clause-the_run : goal.returns-in-Ok-Run-clause-the_run
returns-in-Ok-Run-clause-the_run g c = command_runs TheRun the_run _ _

pub returns-in-Ok-Run-clause-asks_nothing : goal.returns-in-Ok-Run-clause-asks_nothing
returns-in-Ok-Run-clause-asks_nothing g c = λ number events is. not_another c.args.words.now Run (Make number events) (run_is_no_load number events) (read_as c.args.words.now _ Run c.in-Ok-Run.field-0-is c.in-Ok-Run.ensures.command) is

pub returns-in-Ok-Run-clause-words : goal.returns-in-Ok-Run-clause-words
returns-in-Ok-Run-clause-words g c = λ e command is. absurd (c.run.ensures.words e)

pub returns-in-Ok-Run-clause-holds : goal.returns-in-Ok-Run-clause-holds
returns-in-Ok-Run-clause-holds g c = keeps_all c.runs_are_audited_well.ensures.yes _ _ _ _ _ _ (returns-in-Ok-Run-clause-words g c) (returns-in-Ok-Run-clause-run g c) (returns-in-Ok-Run-clause-tree g c) (returns-in-Ok-Run-clause-make g c)

pub returns-in-Ok-Run-clause-no_command : goal.returns-in-Ok-Run-clause-no_command
returns-in-Ok-Run-clause-no_command g c = λ none. absurd (none Run (read_as c.args.words.now _ Run c.in-Ok-Run.field-0-is c.in-Ok-Run.ensures.command))

pub returns-in-Ok-Run-clause-untouched : goal.returns-in-Ok-Run-clause-untouched
returns-in-Ok-Run-clause-untouched g c = λ none. absurd (none Run (read_as c.args.words.now _ Run c.in-Ok-Run.field-0-is c.in-Ok-Run.ensures.command))

pub returns-in-Ok-Run-clause-flushed : goal.returns-in-Ok-Run-clause-flushed
returns-in-Ok-Run-clause-flushed g c = c.run.ensures.flushed

pub returns-in-Ok-Run-clause-nothing_held : goal.returns-in-Ok-Run-clause-nothing_held
returns-in-Ok-Run-clause-nothing_held g c = c.run.ensures.nothing_held

pub returns-in-Ok-Run-clause-read_fault : goal.returns-in-Ok-Run-clause-read_fault
returns-in-Ok-Run-clause-read_fault g c = c.run.ensures.read_fault

pub returns-in-Ok-Run-clause-write_fault : goal.returns-in-Ok-Run-clause-write_fault
returns-in-Ok-Run-clause-write_fault g c = c.run.ensures.write_fault

-- ---- tree ----

pub returns-in-Ok-Tree-clause-run : goal.returns-in-Ok-Tree-clause-run
returns-in-Ok-Tree-clause-run g c = λ is. not_another c.args.words.now Tree Run tree_is_no_run (read_as c.args.words.now _ Tree c.in-Ok-Tree.field-0-is c.in-Ok-Tree.ensures.command) is

pub returns-in-Ok-Tree-clause-tree : goal.returns-in-Ok-Tree-clause-tree
returns-in-Ok-Tree-clause-tree g c = λ is. c.tree.ensures.promises

pub returns-in-Ok-Tree-clause-make : goal.returns-in-Ok-Tree-clause-make
returns-in-Ok-Tree-clause-make g c = λ number events is. not_another c.args.words.now Tree (Make number events) (tree_is_no_load number events) (read_as c.args.words.now _ Tree c.in-Ok-Tree.field-0-is c.in-Ok-Tree.ensures.command) is

pub returns-in-Ok-Tree-clause-audit : goal.returns-in-Ok-Tree-clause-audit
returns-in-Ok-Tree-clause-audit g c = λ is. not_another c.args.words.now Tree Audit tree_is_no_audit (read_as c.args.words.now _ Tree c.in-Ok-Tree.field-0-is c.in-Ok-Tree.ensures.command) is

pub returns-in-Ok-Tree-clause-the_run : goal.returns-in-Ok-Tree-clause-the_run
returns-in-Ok-Tree-clause-the_run g c = command_runs TheRun the_run _ _

pub returns-in-Ok-Tree-clause-asks_nothing : goal.returns-in-Ok-Tree-clause-asks_nothing
returns-in-Ok-Tree-clause-asks_nothing g c = λ number events is. not_another c.args.words.now Tree (Make number events) (tree_is_no_load number events) (read_as c.args.words.now _ Tree c.in-Ok-Tree.field-0-is c.in-Ok-Tree.ensures.command) is

pub returns-in-Ok-Tree-clause-words : goal.returns-in-Ok-Tree-clause-words
returns-in-Ok-Tree-clause-words g c = λ e command is. absurd (c.tree.ensures.words e)

pub returns-in-Ok-Tree-clause-holds : goal.returns-in-Ok-Tree-clause-holds
returns-in-Ok-Tree-clause-holds g c = keeps_all c.runs_are_audited_well.ensures.yes _ _ _ _ _ _ (returns-in-Ok-Tree-clause-words g c) (returns-in-Ok-Tree-clause-run g c) (returns-in-Ok-Tree-clause-tree g c) (returns-in-Ok-Tree-clause-make g c)

pub returns-in-Ok-Tree-clause-no_command : goal.returns-in-Ok-Tree-clause-no_command
returns-in-Ok-Tree-clause-no_command g c = λ none. absurd (none Tree (read_as c.args.words.now _ Tree c.in-Ok-Tree.field-0-is c.in-Ok-Tree.ensures.command))

pub returns-in-Ok-Tree-clause-untouched : goal.returns-in-Ok-Tree-clause-untouched
returns-in-Ok-Tree-clause-untouched g c = λ none. absurd (none Tree (read_as c.args.words.now _ Tree c.in-Ok-Tree.field-0-is c.in-Ok-Tree.ensures.command))

pub returns-in-Ok-Tree-clause-flushed : goal.returns-in-Ok-Tree-clause-flushed
returns-in-Ok-Tree-clause-flushed g c = c.tree.ensures.flushed

pub returns-in-Ok-Tree-clause-nothing_held : goal.returns-in-Ok-Tree-clause-nothing_held
returns-in-Ok-Tree-clause-nothing_held g c = c.tree.ensures.nothing_held

pub returns-in-Ok-Tree-clause-read_fault : goal.returns-in-Ok-Tree-clause-read_fault
returns-in-Ok-Tree-clause-read_fault g c = c.tree.ensures.read_fault

pub returns-in-Ok-Tree-clause-write_fault : goal.returns-in-Ok-Tree-clause-write_fault
returns-in-Ok-Tree-clause-write_fault g c = c.tree.ensures.write_fault

-- ---- audit ----

pub returns-in-Ok-Audit-clause-run : goal.returns-in-Ok-Audit-clause-run
returns-in-Ok-Audit-clause-run g c = λ is. not_another c.args.words.now Audit Run audit_is_no_run (read_as c.args.words.now _ Audit c.in-Ok-Audit.field-0-is c.in-Ok-Audit.ensures.command) is

pub returns-in-Ok-Audit-clause-tree : goal.returns-in-Ok-Audit-clause-tree
returns-in-Ok-Audit-clause-tree g c = λ is. not_another c.args.words.now Audit Tree audit_is_no_tree (read_as c.args.words.now _ Audit c.in-Ok-Audit.field-0-is c.in-Ok-Audit.ensures.command) is

pub returns-in-Ok-Audit-clause-make : goal.returns-in-Ok-Audit-clause-make
returns-in-Ok-Audit-clause-make g c = λ number events is. not_another c.args.words.now Audit (Make number events) (audit_is_no_load number events) (read_as c.args.words.now _ Audit c.in-Ok-Audit.field-0-is c.in-Ok-Audit.ensures.command) is

pub returns-in-Ok-Audit-clause-audit : goal.returns-in-Ok-Audit-clause-audit
returns-in-Ok-Audit-clause-audit g c = λ is. c.audit.ensures.promises

pub returns-in-Ok-Audit-clause-the_run : goal.returns-in-Ok-Audit-clause-the_run
returns-in-Ok-Audit-clause-the_run g c = command_runs TheRun the_run _ _

pub returns-in-Ok-Audit-clause-asks_nothing : goal.returns-in-Ok-Audit-clause-asks_nothing
returns-in-Ok-Audit-clause-asks_nothing g c = λ number events is. not_another c.args.words.now Audit (Make number events) (audit_is_no_load number events) (read_as c.args.words.now _ Audit c.in-Ok-Audit.field-0-is c.in-Ok-Audit.ensures.command) is

pub returns-in-Ok-Audit-clause-words : goal.returns-in-Ok-Audit-clause-words
returns-in-Ok-Audit-clause-words g c = λ e command is. absurd (c.audit.ensures.words e)

pub returns-in-Ok-Audit-clause-holds : goal.returns-in-Ok-Audit-clause-holds
returns-in-Ok-Audit-clause-holds g c = keeps_all c.runs_are_audited_well.ensures.yes _ _ _ _ _ _ (returns-in-Ok-Audit-clause-words g c) (returns-in-Ok-Audit-clause-run g c) (returns-in-Ok-Audit-clause-tree g c) (returns-in-Ok-Audit-clause-make g c)

pub returns-in-Ok-Audit-clause-no_command : goal.returns-in-Ok-Audit-clause-no_command
returns-in-Ok-Audit-clause-no_command g c = λ none. absurd (none Audit (read_as c.args.words.now _ Audit c.in-Ok-Audit.field-0-is c.in-Ok-Audit.ensures.command))

pub returns-in-Ok-Audit-clause-untouched : goal.returns-in-Ok-Audit-clause-untouched
returns-in-Ok-Audit-clause-untouched g c = λ none. absurd (none Audit (read_as c.args.words.now _ Audit c.in-Ok-Audit.field-0-is c.in-Ok-Audit.ensures.command))

pub returns-in-Ok-Audit-clause-flushed : goal.returns-in-Ok-Audit-clause-flushed
returns-in-Ok-Audit-clause-flushed g c = c.audit.ensures.flushed

pub returns-in-Ok-Audit-clause-nothing_held : goal.returns-in-Ok-Audit-clause-nothing_held
returns-in-Ok-Audit-clause-nothing_held g c = c.audit.ensures.nothing_held

pub returns-in-Ok-Audit-clause-read_fault : goal.returns-in-Ok-Audit-clause-read_fault
returns-in-Ok-Audit-clause-read_fault g c = c.audit.ensures.read_fault

pub returns-in-Ok-Audit-clause-write_fault : goal.returns-in-Ok-Audit-clause-write_fault
returns-in-Ok-Audit-clause-write_fault g c = c.audit.ensures.write_fault

-- ---- make ----

pub make-requires : goal.make-requires
make-requires g c = few_events c.args.words.now _ _ (read_as c.args.words.now _ (Make c.in-Ok-Make.number c.in-Ok-Make.events) c.in-Ok-Make.field-0-is c.in-Ok-Make.ensures.command)

pub returns-in-Ok-Make-clause-run : goal.returns-in-Ok-Make-clause-run
returns-in-Ok-Make-clause-run g c = λ is. not_another c.args.words.now (Make c.in-Ok-Make.number c.in-Ok-Make.events) Run (load_is_no_run _ _) (read_as c.args.words.now _ (Make c.in-Ok-Make.number c.in-Ok-Make.events) c.in-Ok-Make.field-0-is c.in-Ok-Make.ensures.command) is

pub returns-in-Ok-Make-clause-tree : goal.returns-in-Ok-Make-clause-tree
returns-in-Ok-Make-clause-tree g c = λ is. not_another c.args.words.now (Make c.in-Ok-Make.number c.in-Ok-Make.events) Tree (load_is_no_tree _ _) (read_as c.args.words.now _ (Make c.in-Ok-Make.number c.in-Ok-Make.events) c.in-Ok-Make.field-0-is c.in-Ok-Make.ensures.command) is

pub returns-in-Ok-Make-clause-audit : goal.returns-in-Ok-Make-clause-audit
returns-in-Ok-Make-clause-audit g c = λ is. not_another c.args.words.now (Make c.in-Ok-Make.number c.in-Ok-Make.events) Audit (load_is_no_audit _ _) (read_as c.args.words.now _ (Make c.in-Ok-Make.number c.in-Ok-Make.events) c.in-Ok-Make.field-0-is c.in-Ok-Make.ensures.command) is

pub returns-in-Ok-Make-clause-make : goal.returns-in-Ok-Make-clause-make
returns-in-Ok-Make-clause-make g c = λ number events is.
    for_load (λ (n e : ℕ). LoadPromises (run (load_lines (draws_of n e))).over (load_text (draws_of n e)) c.make.result (g.K.Sink.taken c.args.sink.now) (g.K.Sink.taken c.make.new.sink))
    _ _ number events (one_command c.args.words.now (Make c.in-Ok-Make.number c.in-Ok-Make.events) (Make number events) (read_as c.args.words.now _ (Make c.in-Ok-Make.number c.in-Ok-Make.events) c.in-Ok-Make.field-0-is c.in-Ok-Make.ensures.command) is) c.make.ensures.promises

pub returns-in-Ok-Make-clause-the_run : goal.returns-in-Ok-Make-clause-the_run
returns-in-Ok-Make-clause-the_run g c = command_runs TheRun the_run _ _

pub returns-in-Ok-Make-clause-asks_nothing : goal.returns-in-Ok-Make-clause-asks_nothing
returns-in-Ok-Make-clause-asks_nothing g c = λ number events is. refl

pub returns-in-Ok-Make-clause-words : goal.returns-in-Ok-Make-clause-words
returns-in-Ok-Make-clause-words g c = λ e command is. absurd (c.make.ensures.words e)

pub returns-in-Ok-Make-clause-holds : goal.returns-in-Ok-Make-clause-holds
returns-in-Ok-Make-clause-holds g c = keeps_all c.runs_are_audited_well.ensures.yes _ _ _ _ _ _ (returns-in-Ok-Make-clause-words g c) (returns-in-Ok-Make-clause-run g c) (returns-in-Ok-Make-clause-tree g c) (returns-in-Ok-Make-clause-make g c)

pub returns-in-Ok-Make-clause-no_command : goal.returns-in-Ok-Make-clause-no_command
returns-in-Ok-Make-clause-no_command g c = λ none. absurd (none (Make c.in-Ok-Make.number c.in-Ok-Make.events) (read_as c.args.words.now _ (Make c.in-Ok-Make.number c.in-Ok-Make.events) c.in-Ok-Make.field-0-is c.in-Ok-Make.ensures.command))

pub returns-in-Ok-Make-clause-untouched : goal.returns-in-Ok-Make-clause-untouched
returns-in-Ok-Make-clause-untouched g c = λ none. absurd (none (Make c.in-Ok-Make.number c.in-Ok-Make.events) (read_as c.args.words.now _ (Make c.in-Ok-Make.number c.in-Ok-Make.events) c.in-Ok-Make.field-0-is c.in-Ok-Make.ensures.command))

pub returns-in-Ok-Make-clause-flushed : goal.returns-in-Ok-Make-clause-flushed
returns-in-Ok-Make-clause-flushed g c = c.make.ensures.flushed

pub returns-in-Ok-Make-clause-nothing_held : goal.returns-in-Ok-Make-clause-nothing_held
returns-in-Ok-Make-clause-nothing_held g c = c.make.ensures.nothing_held

pub returns-in-Ok-Make-clause-write_fault : goal.returns-in-Ok-Make-clause-write_fault
returns-in-Ok-Make-clause-write_fault g c = c.make.ensures.write_fault

pub returns-in-Ok-Make-clause-read_fault : goal.returns-in-Ok-Make-clause-read_fault
returns-in-Ok-Make-clause-read_fault g c = λ e. absurd (c.make.ensures.reads e)

-- ---- other words ----

pub returns-in-Err-Bad-clause-run : goal.returns-in-Err-Bad-clause-run
returns-in-Err-Bad-clause-run g c = λ is. absurd (c.read_words.ensures.bad (c.in-Err-Bad.is ∙ ap Err c.in-Err-Bad.field-0-is) Run is)

pub returns-in-Err-Bad-clause-tree : goal.returns-in-Err-Bad-clause-tree
returns-in-Err-Bad-clause-tree g c = λ is. absurd (c.read_words.ensures.bad (c.in-Err-Bad.is ∙ ap Err c.in-Err-Bad.field-0-is) Tree is)

pub returns-in-Err-Bad-clause-audit : goal.returns-in-Err-Bad-clause-audit
returns-in-Err-Bad-clause-audit g c = λ is. absurd (c.read_words.ensures.bad (c.in-Err-Bad.is ∙ ap Err c.in-Err-Bad.field-0-is) Audit is)

pub returns-in-Err-Bad-clause-make : goal.returns-in-Err-Bad-clause-make
returns-in-Err-Bad-clause-make g c = λ number events is. absurd (c.read_words.ensures.bad (c.in-Err-Bad.is ∙ ap Err c.in-Err-Bad.field-0-is) (Make number events) is)

pub returns-in-Err-Bad-clause-the_run : goal.returns-in-Err-Bad-clause-the_run
returns-in-Err-Bad-clause-the_run g c = command_runs TheRun the_run _ _

pub returns-in-Err-Bad-clause-asks_nothing : goal.returns-in-Err-Bad-clause-asks_nothing
returns-in-Err-Bad-clause-asks_nothing g c = λ number events is. absurd (c.read_words.ensures.bad (c.in-Err-Bad.is ∙ ap Err c.in-Err-Bad.field-0-is) (Make number events) is)

pub returns-in-Err-Bad-clause-words : goal.returns-in-Err-Bad-clause-words
returns-in-Err-Bad-clause-words g c = λ e command is. c.read_words.ensures.bad (c.in-Err-Bad.is ∙ ap Err c.in-Err-Bad.field-0-is) command is

pub returns-in-Err-Bad-clause-holds : goal.returns-in-Err-Bad-clause-holds
returns-in-Err-Bad-clause-holds g c = keeps_all c.runs_are_audited_well.ensures.yes _ _ _ _ _ _ (returns-in-Err-Bad-clause-words g c) (returns-in-Err-Bad-clause-run g c) (returns-in-Err-Bad-clause-tree g c) (returns-in-Err-Bad-clause-make g c)

pub returns-in-Err-Bad-clause-no_command : goal.returns-in-Err-Bad-clause-no_command
returns-in-Err-Bad-clause-no_command g c = λ none. inl refl

pub returns-in-Err-Bad-clause-untouched : goal.returns-in-Err-Bad-clause-untouched
returns-in-Err-Bad-clause-untouched g c = λ none. (refl, refl)

pub returns-in-Err-Bad-clause-flushed : goal.returns-in-Err-Bad-clause-flushed
returns-in-Err-Bad-clause-flushed g c = λ e. absurd (cc)

pub returns-in-Err-Bad-clause-nothing_held : goal.returns-in-Err-Bad-clause-nothing_held
returns-in-Err-Bad-clause-nothing_held g c = λ e. inl refl

pub returns-in-Err-Bad-clause-read_fault : goal.returns-in-Err-Bad-clause-read_fault
returns-in-Err-Bad-clause-read_fault g c = λ e. absurd (cc)

pub returns-in-Err-Bad-clause-write_fault : goal.returns-in-Err-Bad-clause-write_fault
returns-in-Err-Bad-clause-write_fault g c = λ e. absurd (cc)

-- ---- no memory for the words ----

pub returns-in-Err-NoMemory-clause-run : goal.returns-in-Err-NoMemory-clause-run
returns-in-Err-NoMemory-clause-run g c = λ is. for_memory Schedule _ _ _ _ (Nothing-front Schedule _ _)

pub returns-in-Err-NoMemory-clause-tree : goal.returns-in-Err-NoMemory-clause-tree
returns-in-Err-NoMemory-clause-tree g c = λ is. for_memory Calls _ _ _ _ (Nothing-front Calls _ _)

pub returns-in-Err-NoMemory-clause-audit : goal.returns-in-Err-NoMemory-clause-audit
returns-in-Err-NoMemory-clause-audit g c = λ is. no_memory _ _ _

pub returns-in-Err-NoMemory-clause-make : goal.returns-in-Err-NoMemory-clause-make
returns-in-Err-NoMemory-clause-make g c = λ number events is. no_load _ _ _

pub returns-in-Err-NoMemory-clause-the_run : goal.returns-in-Err-NoMemory-clause-the_run
returns-in-Err-NoMemory-clause-the_run g c = command_runs TheRun the_run _ _

pub returns-in-Err-NoMemory-clause-asks_nothing : goal.returns-in-Err-NoMemory-clause-asks_nothing
returns-in-Err-NoMemory-clause-asks_nothing g c = λ number events is. refl

pub returns-in-Err-NoMemory-clause-words : goal.returns-in-Err-NoMemory-clause-words
returns-in-Err-NoMemory-clause-words g c = λ e command is. absurd (cc)

pub returns-in-Err-NoMemory-clause-holds : goal.returns-in-Err-NoMemory-clause-holds
returns-in-Err-NoMemory-clause-holds g c = keeps_all c.runs_are_audited_well.ensures.yes _ _ _ _ _ _ (returns-in-Err-NoMemory-clause-words g c) (returns-in-Err-NoMemory-clause-run g c) (returns-in-Err-NoMemory-clause-tree g c) (returns-in-Err-NoMemory-clause-make g c)

pub returns-in-Err-NoMemory-clause-no_command : goal.returns-in-Err-NoMemory-clause-no_command
returns-in-Err-NoMemory-clause-no_command g c = λ none. inr refl

pub returns-in-Err-NoMemory-clause-untouched : goal.returns-in-Err-NoMemory-clause-untouched
returns-in-Err-NoMemory-clause-untouched g c = λ none. (refl, refl)

pub returns-in-Err-NoMemory-clause-flushed : goal.returns-in-Err-NoMemory-clause-flushed
returns-in-Err-NoMemory-clause-flushed g c = λ e. absurd (cc)

pub returns-in-Err-NoMemory-clause-nothing_held : goal.returns-in-Err-NoMemory-clause-nothing_held
returns-in-Err-NoMemory-clause-nothing_held g c = λ e. absurd (false≢true e)

pub returns-in-Err-NoMemory-clause-read_fault : goal.returns-in-Err-NoMemory-clause-read_fault
returns-in-Err-NoMemory-clause-read_fault g c = λ e. absurd (cc)

pub returns-in-Err-NoMemory-clause-write_fault : goal.returns-in-Err-NoMemory-clause-write_fault
returns-in-Err-NoMemory-clause-write_fault g c = λ e. absurd (cc)
