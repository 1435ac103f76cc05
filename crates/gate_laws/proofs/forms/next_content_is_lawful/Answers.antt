use Rattle.gate_laws.proofs.ContentForms as law
use Rattle.gate_laws.proofs.forms.next_content_is_lawful.Goals as goal

pub returns : goal.returns
returns c = law.next_content_is_lawful
