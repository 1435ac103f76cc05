use Rattle.std.proofs.Common.{◌≡◌, ◌∙◌, ap, get_or}
use Rattle.sqlite_value.specs.Order.{column}
use Rattle.gate_found_rows.specs.Shown.{number_shown}
use Rattle.gate_found_rows.proofs.ShownLemmas.{surely}
use Rattle.gate_archive_queries.proofs.builds.count_in.Goals as goal

pub returns-in-len1 : goal.returns-in-len1
returns-in-len1 c n is =
    let row : c.row-item.result ≡ number_shown n = c.row-item.is ∙ ap (λ rs. get_or rs 0 c.row-item.result) is in
    let at = ap (λ r. column r 0) row in
    surely n c.number_in.result (c.number_in.ensures.ok n at) (c.number_in.ensures.err n at)
