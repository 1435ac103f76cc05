use Rattle.std.proofs.Common.{ap, true, ◌≡◌, ◌∙◌}
use Rattle.clap.specs.Simple.{app_of_fields}
use Rattle.clap.specs.Words.{App, app_of}
use Rattle.gated_command.specs.CommandLine.{bare_gated}
use Rattle.gated_command.proofs.commands.app.Goals as goal

-- the program that has a version
abbrev versioned : App → App
versioned a = record a { top = record a.top { has_version = true } }

-- the program that needs a command
abbrev requiring : App → App
requiring a = record a { top = record a.top { subcommand_required = true } }

pub returns : goal.returns
returns c =
    let about : app_of c.about.result ≡ bare_gated = ap app_of_fields c.about.ensures ∙ c.new.ensures.app in
    let dated : app_of c.version.result ≡ versioned bare_gated =
    ap app_of_fields c.version.ensures ∙ ap versioned about in
    let strict : app_of c.subcommand_required-bare.result ≡ requiring (versioned bare_gated) =
    ap app_of_fields c.subcommand_required-bare.ensures ∙ ap requiring dated in
    let checking = c.with-whole.ensures _ _ strict c.check.ensures in
    let making = c.with-whole-2.ensures _ _ checking c.init.ensures in
    let replaying = c.with-whole-3.ensures _ _ making c.replay.ensures in
    let delivering = c.with-whole-4.ensures _ _ replaying c.deliver.ensures in
    let showing = c.with-whole-5.ensures _ _ delivering c.status.ensures in
    let telling = c.with-whole-6.ensures _ _ showing c.history.ensures in
    let feeding = c.with-whole-7.ensures _ _ telling c.deliveries.ensures in
    let getting = c.with-whole-8.ensures _ _ feeding c.get.ensures in
    let serving = c.with-whole-9.ensures _ _ getting c.serve.ensures in
    c.with.ensures _ _ serving c.migrate.ensures
