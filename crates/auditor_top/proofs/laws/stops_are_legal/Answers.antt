use Rattle.auditor_top.proofs.laws.stops_are_legal.Goals as goal

pub returns : goal.returns
returns c = λ schema table before image sent base batch history now lines files legal stops stands.
    c.stops.ensures base batch history lines image stops.0 now (c.sound_files.ensures.database schema table base files)
    (c.sound_files.ensures.secret schema table base files) legal stops.2 stands
