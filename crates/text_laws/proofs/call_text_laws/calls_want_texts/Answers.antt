use Rattle.text_laws.proofs.CallTexts.Scripts.{wants_text}
use Rattle.text_laws.proofs.call_text_laws.calls_want_texts.Goals as goal

pub returns : goal.returns
returns g mounts packed free process words begins answers m f w b h = wants_text mounts packed free process words begins answers m f w b h
