-- What a configuration shows before any line is read; and what it shows with another layout or kind.
use Rattle.std.specs.Prelude.{replicate}
use Rattle.std.specs.Prelude.{None}
use Rattle.model.specs.declared.Kind.{Kind}
use Rattle.model.specs.declared.Kind.TheVariants.{Ascii}
use Rattle.model.specs.declared.Edition.TheVariants.{Y2013}
use Rattle.model.specs.declared.Layout.{Layout}
use Rattle.model.specs.Layouts.{in_kind}
use Rattle.config_rules.specs.declared.Config.{Config}

-- zeros for every number, no dates, and no last lines
unfoldable pub no_config : Config
no_config =
    record {
      layout = record { analogs = 0; statuses = 0; rows = 0; kind = Ascii; edition = Y2013 };
      rates = 0;
      lasts = replicate 8 0;
      first = None;
      trigger = None;
      pretrigger = None;
      last = None;
    }

-- the same in another layout
abbrev pub with_layout : Layout → Config → Config
with_layout l c =
    record {
      layout = l;
      rates = c.rates;
      lasts = c.lasts;
      first = c.first;
      trigger = c.trigger;
      pretrigger = c.pretrigger;
      last = c.last;
    }

-- the same in another kind
unfoldable pub with_kind : Kind → Config → Config
with_kind k c = with_layout (in_kind k c.layout) c
