-- The layers of this crate as plain data.
use Rattle.device.specs.Layers.{Layer, Flaky, Dusty, Features}
use Rattle.layers.specs.declared.flakey.Flakey.{Flakey}
use Rattle.layers.specs.declared.flakey.Features.{Features as FlakeyFeatures}
use Rattle.layers.specs.declared.dust.Dust.{Dust}

-- a flakey layer's features
abbrev pub features_of : FlakeyFeatures → Features
features_of f = record { drop_writes = f.drop_writes; error_writes = f.error_writes; error_reads = f.error_reads }

-- a flakey layer
abbrev pub flakey_layer : Flakey → Layer
flakey_layer f = Flaky f.moment f.up f.down (features_of f.features) f.offset

-- a dust layer
abbrev pub dust_layer : Dust → Layer
dust_layer d = Dusty d.sectors d.block_size d.enabled d.bad.keys
