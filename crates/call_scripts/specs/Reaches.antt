-- What a call goes on to ask, once its walk and the open of a directory are as far as they are.
use Rattle.std.specs.Prelude.{ℕ, List, None}
use Rattle.locus_ids.specs.declared.ids.FileId.{FileId}
use Rattle.locus_ids.specs.declared.ids.Kind.{Kind}
use Rattle.locus_ids.specs.declared.ids.Kind.TheVariants.{File}
use Rattle.locus_ids.specs.declared.config.Mount.{Mount}
use Rattle.locus_ids.specs.declared.ids.Serial.{Serial}
use Rattle.trace_book.specs.Names.{last_of}
use Rattle.call_rules.specs.declared.answer.Answer.{Answer}
use Rattle.call_rules.specs.declared.want.Want.{Want}
use Rattle.call_rules.specs.Making.{opens_dir, probes}
use Rattle.call_rules.specs.Mailing.{tells_name}
use Rattle.call_rules.specs.Walks.{walked}
use Rattle.call_scripts.specs.declared.reaching.Reached.{Reached}
use Rattle.call_scripts.specs.declared.reaching.Reached.TheVariants as reached
use Rattle.call_scripts.specs.declared.reaching.Opened.{Opened}
use Rattle.call_scripts.specs.declared.reaching.Opened.TheVariants as opened

abbrev pub after_walk : (FileId → Kind → List Answer → Want) → Reached → Want
after_walk after (reached.Wants want) = want
after_walk after (reached.There file kind answers) = after file kind answers.now

abbrev pub after_opening : (ℕ → Serial → List Answer → Want) → Opened → Want
after_opening next (opened.Wants want) = want
after_opening next (opened.Open group dir answers) = next group dir answers.now

-- what a mail asks that puts a message of this name into the box to which these components lead
abbrev pub mails_to : List Mount → List (List ℕ) → List ℕ → List ℕ → List Answer → Want
mails_to mounts names name bytes answers = walked mounts names answers
    (λ dir kind rest. opens_dir (last_of names) (λ p more. probes p dir.group name File None bytes (tells_name name) more) dir kind rest)
