use Rattle.gated_cli.proofs.run.over_file.stays_lawful.Goals as goal

pub returns : goal.returns
returns c k x sound may lawful =
    c.adopted_content_is_lawful.ensures k c.args.config.now x sound c.show_sound.ensures c.settings_are_in_form.ensures may lawful
